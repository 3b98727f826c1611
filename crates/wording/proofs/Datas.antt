-- Items of data, digit pairs and the fields of a frame, written one behind the other.
use mathlib.Core.Path.{◌≡◌, refl, ap, ◌∙◌}
use mathlib.Core.Bool.{false}
use mathlib.Core.List.{List, [], ◌∷◌, ◌++◌, append_assoc}
use Prim.Native.Nat.{ℕ, suc, ◌-◌, ◌/◌, ◌%◌, ◌≤◌, ◌<◌}
use native.Mathlib.Omega.{arith}
use lib.IntN.{pos}
use lib.ListN.{length, get_or, drop, take}
use lib.Seq.{drop_at}
use Rattle.laws.specs.Lists.{each}
use Rattle.laws.proofs.Tests.{clash}
use Rattle.laws.proofs.Stores.{rest_is}
use Rattle.rules.specs.Expressions.{Expr, num, parse, got, read_expr, bytes_of}
use Rattle.rules.specs.Output.{hex_digit, hex_byte}
use Rattle.rules.specs.Statements.{pair_at}
use Rattle.text.specs.Fits.{ExprFits}
use Rattle.expression.proofs.RoundTrip.{reads_expr}
use Rattle.text.specs.Text.{items_text, comment_text}
use Rattle.terms.specs.Writing.{Wrote, Told}
use Rattle.wording.specs.Writing.{Itemed}
use Rattle.terms.proofs.Writes.{wrote_then, wrote_step, wrote_none, same_text}

-- ---- items of data

pub no_items : (by count at : ℕ) (s b : List ℕ) → count < 1 → length b ≡ 1024 → at ≤ 1025 → Itemed by s b b count at at
unfolding items_text
no_items by count at s b h z m = record { size = z; bound = m; all = on }
  where
    on : (es : List Expr) (rest : List ℕ) → length es ≡ count → s ≡ each (λ e. bytes_of e) es ++ rest
        → ((j : ℕ) → j < length es → ExprFits (get_or es j (num (pos 0)))) → Wrote b b at (items_text by es) at
    on [] rest e q f = wrote_none b at z m
    on (e ∷ es) rest l q f = absurd (omega arith)

pub more_items : {b a₀ a₁ a₂ : List ℕ} {at m₀ m₁ t to : ℕ} (by count : ℕ) (s : List ℕ) → 1 ≤ count → Wrote b a₀ at (by ∷ []) m₀
    → Told false s a₀ a₁ m₀ t m₁
    → Itemed 44 (drop t s) a₁ a₂ (count - 1) m₁ to → Itemed by s b a₂ count at to
unfolding items_text each read_expr
more_items {b} {a₀} {a₁} {a₂} {at} {m₀} {m₁} {t} {to} by count s h p w r = record { size = r.size; bound = r.bound; all = on }
  where
    on : (es : List Expr) (rest : List ℕ) → length es ≡ count → s ≡ each (λ e. bytes_of e) es ++ rest
        → ((j : ℕ) → j < length es → ExprFits (get_or es j (num (pos 0)))) → Wrote b a₂ at (items_text by es) to
    on [] rest l q f = absurd (omega arith)
    on (e ∷ es) rest l q f =
        let k : ExprFits e = f 0 (omega arith) in
        let v : List ℕ = each (λ e. bytes_of e) es ++ rest in
        let z : s ≡ bytes_of e ++ v = q ∙ append_assoc (bytes_of e) (each (λ e. bytes_of e) es) rest in
        let g : parse 32 32 s ≡ got e (length (bytes_of e)) = ap (parse 32 32) z ∙ reads_expr e k.sound v k.short in
        let x = w.tree 32 32 e (length (bytes_of e)) g in
        let y : drop t s ≡ v = ap (λ n. drop n s) x.1 ∙ ap (drop (length (bytes_of e))) z
        ∙ drop_at (bytes_of e) v (length (bytes_of e)) refl in
        wrote_then p (wrote_then x.0 (r.all es rest (omega arith) y (λ j i. f (suc j) (omega arith))))

pub rest_items : {b a : List ℕ} {count at to : ℕ} (by k : ℕ) (s : List ℕ) → Itemed by (take (length s - k) (drop k s)) b a count at to
    → Itemed by (drop k s) b a count at to
rest_items by k s w = rw (rest_is k s) at w

-- ---- bytes as digit pairs

pub no_pairs : (b : List ℕ) (at : ℕ) (s : List ℕ) → length s < 1 → length b ≡ 1024 → at ≤ 1025 → Wrote b b at (each (λ c. hex_byte c) s) at
unfolding each
no_pairs b at [] h z m = wrote_none b at z m
no_pairs b at (c ∷ s) h z m = absurd (omega arith)

first_pair : (s : List ℕ) → 1 ≤ length s → hex_digit (get_or s 0 0 / 16) ∷ hex_digit (get_or s 0 0 % 16) ∷ each (λ c. hex_byte c)
    (drop 1 s) ≡ each (λ c. hex_byte c) s
unfolding each
first_pair [] h = absurd (omega arith)
first_pair (c ∷ s) h = refl

pub more_pairs : {b a₀ a₁ a₂ : List ℕ} {at m₀ m₁ to x y : ℕ} (s : List ℕ) → 1 ≤ length s → x ≡ hex_digit (get_or s 0 0 / 16)
    → y ≡ hex_digit (get_or s 0 0 % 16) → Wrote b a₀ at (x ∷ []) m₀
    → Wrote a₀ a₁ m₀ (y ∷ []) m₁ → Wrote a₁ a₂ m₁ (each (λ c. hex_byte c) (take (length s - 1) (drop 1 s))) to
    → Wrote b a₂ at (each (λ c. hex_byte c) s) to
more_pairs s h e d p q r = same_text (first_pair s h)
    (wrote_step e p (wrote_step d q (same_text (ap (each (λ c. hex_byte c)) (rest_is 1 s)) r)))

-- ---- frames

-- what follows the second byte
pub behind_two : (s : List ℕ) (n : ℕ) (x : List ℕ) → drop 1 s ≡ n ∷ x → (get_or s 1 0 ≡ n) × (drop 2 s ≡ x)
behind_two [] n x e = clash (cc)
behind_two (a ∷ []) n x e = clash (cc)
behind_two (a ∷ b ∷ s) n x e = (cc, cc)

-- two bytes behind the second
pub pair_behind : (s : List ℕ) → pair_at (drop 1 s) 1 ≡ pair_at s 2
pair_behind [] = refl
pair_behind (a ∷ s) = refl

pub no_comment : (s : List ℕ) → length s < 2 → comment_text (drop 1 s) ≡ []
no_comment [] h = refl
no_comment (a ∷ []) h = refl
no_comment (a ∷ b ∷ s) h = absurd (omega arith)

pub some_comment : (s : List ℕ) → 2 ≤ length s → 32 ∷ each (λ c. hex_byte c) (take (length s - 1) (drop 1 s)) ≡ comment_text (drop 1 s)
some_comment [] h = absurd (omega arith)
some_comment (a ∷ []) h = absurd (omega arith)
some_comment (a ∷ b ∷ s) h = ap (λ t. 32 ∷ each (λ c. hex_byte c) t) (rest_is 1 (a ∷ b ∷ s))
