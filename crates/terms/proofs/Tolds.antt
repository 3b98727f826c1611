-- An expression written along its bytes: the text is that of the tree, if each step writes what the tree's node has.
use mathlib.Core.Path.{◌≡◌, refl, sym, ap}
use mathlib.Core.Bool.{Bool, true, false, cond}
use mathlib.Core.List.{List, [], ◌∷◌, ◌++◌, append_assoc, append-nil}
use Prim.Native.Nat.{ℕ, ◌+◌, ◌-◌, ◌≤◌}
use native.Mathlib.Omega.{arith}
use lib.IntN.{ℤ}
use lib.ListN.{length, get_or, drop, take, length-drop}
use Rattle.laws.proofs.Stores.{rest_is}
use Rattle.rules.specs.declared.Op1.{Op1}
use Rattle.rules.specs.declared.Op2.{Op2}
use Rattle.rules.specs.declared.Tag.{Tag}
use Rattle.rules.specs.declared.Tag.TheVariants.{Number, Name, Two, One, Bad}
use Rattle.rules.specs.Expressions.{Expr, num, name, two, one, number_of, name_of, tag_of, by_tag, parse}
use Rattle.expression.proofs.Trees.{Said, heard, said, empty_said, tag_said, number_said, name_said_lem, bad_said, one_said, two_said}
use Rattle.text.specs.Text.{sign1, sign2, number, name_text, closed, expr_text}
use Rattle.terms.specs.Writing.{Wrote, Leafed, Told, text_in, before1, behind1}
use Rattle.terms.proofs.Writes.{wrote_then, same_text}

-- ---- the texts

num_text : (inside : Bool) (z : ℤ) → number z ≡ text_in inside (num z)
unfolding expr_text
num_text true z = refl
num_text false z = refl

name_text_lem : (inside : Bool) (n : ℕ) → name_text n ≡ text_in inside (name n)
unfolding expr_text
name_text_lem true n = refl
name_text_lem false n = refl

one_text : (inside : Bool) (o : Op1) (e : Expr) → before1 inside o ++ (text_in false e ++ behind1 inside) ≡ text_in inside (one o e)
unfolding expr_text
one_text true o e = ap (λ t. 40 ∷ sign1 o ∷ 40 ∷ t) (sym (append_assoc (expr_text e) (41 ∷ []) (41 ∷ [])))
one_text false o e = refl

two_text : (inside : Bool) (o : Op2) (e d : Expr)
    → cond inside (40 ∷ []) [] ++ (text_in true e ++ ((sign2 o ∷ []) ++ (text_in true d ++ cond inside (41 ∷ []) []))) ≡ text_in inside
    (two o e d)
unfolding expr_text
two_text true o e d = ap (λ t. 40 ∷ t) (sym (append_assoc (closed e (expr_text e)) (sign2 o ∷ closed d (expr_text d)) (41 ∷ [])))
two_text false o e d = ap (λ t. closed e (expr_text e) ++ (sign2 o ∷ t)) (append-nil (closed d (expr_text d)))

-- ---- the steps

-- what is told of a tree of n bytes
abbrev Tells : (inside : Bool) (b a : List ℕ) (at t to : ℕ) → Expr → ℕ → Type 0
Tells inside b a at t to e n = Wrote b a at (text_in inside e) to × (t ≡ n)

module _ (inside : Bool) (s : List ℕ) where
  by_tag_lem : (b a : List ℕ) (at t to : ℕ) (T : Tag) → tag_of (get_or s 0 0) ≡ T → length a ≡ 1024 → to ≤ 1025 → t ≤ length s
      → ((g room : ℕ) → Said (Tells inside b a at t to) (by_tag T (parse g) room s)) → Told inside s b a at t to
  by_tag_lem b a at t to T q z m h w =
      record {
        size = z;
        bound = m;
        within = h;
        tree = λ f room. heard (Tells inside b a at t to) (parse f room s)
            (tag_said (Tells inside b a at t to) s T q f room (λ g. w g room));
      }

  pub told_empty : (b : List ℕ) (at : ℕ) → length b ≡ 1024 → at ≤ 1025 → length s ≤ 0 → Told inside s b b at 0 at
  told_empty b at z m h =
      record {
        size = z;
        bound = m;
        within = omega arith;
        tree = λ f room. heard (Tells inside b b at 0 at) (parse f room s)
            (empty_said (Tells inside b b at 0 at) f room s h);
      }

  pub told_bad : (b : List ℕ) (at : ℕ) → length b ≡ 1024 → at ≤ 1025 → tag_of (get_or s 0 0) ≡ Bad → Told inside s b b at 0 at
  told_bad b at z m q = by_tag_lem b b at 0 at Bad q z m (omega arith) (λ g room. bad_said (Tells inside b b at 0 at) (parse g) room s)

  pub told_number : {b a : List ℕ} {at t to : ℕ} → tag_of (get_or s 0 0) ≡ Number → Leafed 5 (number (number_of s)) s b a at t to
      → Told inside s b a at t to
  told_number {b} {a} {at} {t} {to} q l =
      by_tag_lem b a at t to Number q l.size l.bound l.within
      (λ g room. number_said (Tells inside b a at t to) (parse g) room s (λ h k. let w = l.is k in
      (same_text (num_text inside (number_of s)) w.0, w.1)))

  pub told_name : {b a : List ℕ} {at t to : ℕ} → tag_of (get_or s 0 0) ≡ Name → Leafed 3 (name_text (name_of s)) s b a at t to
      → Told inside s b a at t to
  told_name {b} {a} {at} {t} {to} q l =
      by_tag_lem b a at t to Name q l.size l.bound l.within
      (λ g room. name_said_lem (Tells inside b a at t to) (parse g) room s (λ h k. let w = l.is k in
      (same_text (name_text_lem inside (name_of s)) w.0, w.1)))

  pub told_rest : {b a : List ℕ} {at t to : ℕ} (k : ℕ) → Told inside (take (length s - k) (drop k s)) b a at t to
      → Told inside (drop k s) b a at t to
  told_rest k w = rw (rest_is k s) at w

rest_said : (inside : Bool) (s b a : List ℕ) (at t to k : ℕ) → Told inside (drop k s) b a at t to → (f room : ℕ)
    → Said (Tells inside b a at t to) (parse f room (drop k s))
rest_said inside s b a at t to k w f room = said (Tells inside b a at t to) (parse f room (drop k s)) (w.tree f room)

module _ (inside : Bool) (s : List ℕ) where
  pub told_one : {b a₀ a₁ a₂ : List ℕ} {at m₀ m₁ t to : ℕ} (o : Op1) → tag_of (get_or s 0 0) ≡ One o → 1 ≤ length s
      → Wrote b a₀ at (before1 inside o) m₀
      → Told false (drop 1 s) a₀ a₁ m₀ t m₁ → Wrote a₁ a₂ m₁ (behind1 inside) to → Told inside s b a₂ at (1 + t) to
  told_one {b} {a₀} {a₁} {a₂} {at} {m₀} {m₁} {t} {to} o q h p w r =
      let l = length-drop 1 s in
      by_tag_lem inside s b a₂ at (1 + t) to (One o) q r.size r.within (omega (arith, w.within))
      (λ g room.
      one_said (Tells inside b a₂ at (1 + t) to) (parse g) room s o (Tells false a₀ a₁ m₀ t m₁)
      (rest_said false s a₀ a₁ m₀ t m₁ 1 w g (room - 1))
      (λ e n x. (same_text (one_text inside o e) (wrote_then p (wrote_then x.0 r)), ap (λ (i : ℕ). 1 + i) x.1)))

  pub told_two : {b a₀ a₁ a₂ a₃ a₄ : List ℕ} {at m₀ m₁ m₂ m₃ t u to : ℕ} (o : Op2) → tag_of (get_or s 0 0) ≡ Two o → 1 ≤ length s
      → Wrote b a₀ at (cond inside (40 ∷ []) []) m₀
      → Told true (drop 1 s) a₀ a₁ m₀ t m₁ → Wrote a₁ a₂ m₁ (sign2 o ∷ []) m₂ → Told true (drop (1 + t) s) a₂ a₃ m₂ u m₃
      → Wrote a₃ a₄ m₃ (cond inside (41 ∷ []) []) to
      → Told inside s b a₄ at (1 + t + u) to
  told_two {b} {a₀} {a₁} {a₂} {a₃} {a₄} {at} {m₀} {m₁} {m₂} {m₃} {t} {u} {to} o q h p v i w r =
      let l = length-drop 1 s in
      let k = length-drop (1 + t) s in
      by_tag_lem inside s b a₄ at (1 + t + u) to (Two o) q r.size r.within (omega (arith, v.within, w.within))
      (λ g room.
      two_said (Tells inside b a₄ at (1 + t + u) to) (parse g) room s o (Tells true a₀ a₁ m₀ t m₁) (λ j. Tells true a₂ a₃ m₂ u m₃)
      (rest_said true s a₀ a₁ m₀ t m₁ 1 v g (room - 1))
      (λ e n x. rw (← x.1) (rest_said true s a₂ a₃ m₂ u m₃ (1 + t) w g (room - (1 + t))))
      (λ e d n m x y. (
        same_text (two_text inside o e d) (wrote_then p (wrote_then x.0 (wrote_then i (wrote_then y.0 r)))),
        omega (arith, x.1, y.1),
      )))
