-- The plan of lines and the grammar of lines are the same: so each line has one reading, and where the reader is stuck is the column.
-- Assumes nothing.
use mathlib.Core.Path.{◌≡◌, refl, sym, subst}
use mathlib.Core.Logic.{◌⊎◌, inl, inr}
use mathlib.Core.List.{List, [], ◌∷◌, ◌++◌}
use mathlib.Core.Bool.{true}
use Prim.Native.Nat.{ℕ, suc, ◌+◌, ◌-◌, ◌≤◌, ◌<◌}
use native.Mathlib.Omega.{arith}
use lib.Dec.{leb}
use lib.ListN.{length, take}
use Rattle.laws.specs.Lists.{every, each}
use Rattle.rules.specs.Expressions.{Expr}
use Rattle.rules.specs.Patterns.{codes}
use Rattle.rules.specs.Output.{hex_byte}
use Rattle.rules.specs.Programs.{Stmt, gone, instr, label, variable, comment, org, bytes, words, pad}
use Rattle.text.specs.Text.{mnemonic, comment_text}
use Rattle.grammar.specs.Reading as reading
use Rattle.grammar.specs.Reading.{Exp, Line, Good, Begins, WrongAt}
use Rattle.grammar.specs.Going.{got, stuck}
use Rattle.plans.specs.Plans.{finish, Reads, Walks}
use Rattle.plans.specs.Words.{Word, opening, closing, Says, In, here, there}
use Rattle.plans.specs.Families.{mnemonics}
use Rattle.plans.specs.Finals.{comments}
use Rattle.plans.specs.Lines.{global_plan, local_plan, org_plan, items_plan, align_plan, dot_words, word_list, line_plan}
use Rattle.plans.proofs.Planned.{Begun, fine_walk}
use Rattle.plans.proofs.ReadOnce.{Wrong, complete_walk, one_line, stuck_is, one_column}
use Rattle.plans.proofs.Worded.{Found, trie_right}
use Rattle.plans.proofs.Formed.{mnemonic_line, line_mnemonic}
use Rattle.plans.proofs.Counted.{Aligned, align_of, of_align}
use Rattle.plans.proofs.Commented.{comment_line, line_comment}
use Rattle.plans.proofs.Lined.{words_fit, no_in, in_either, in_first, in_second, line_alive, global_line, local_line, org_line, Listed, items_line, line_global, line_defined, line_local, line_org, line_items, first_item}

-- ---- from the plan to the grammar

bytes_line : (s : Stmt) (t : List ℕ) → Listed bytes 15 [] s t → Line s (codes ".byte " ++ t)
bytes_line s t r = subst (λ y. Line y (codes ".byte " ++ t)) (sym r.is) (reading.byte_items r.least r.most (r.text 32))

words_line : (s : Stmt) (t : List ℕ) → Listed words 15 [] s t → Line s (codes ".word " ++ t)
words_line s t r = subst (λ y. Line y (codes ".word " ++ t)) (sym r.is) (reading.word_items r.least r.most (r.text 32))

no_bytes : Line (comment []) (codes ".comment")
unfolding every
no_bytes = reading.commented {s = []} refl

align_line : (s : Stmt) (t : List ℕ) → Aligned pad s t → Line s (codes ".align " ++ t)
align_line s t r =
    subst (λ y. Line y (codes ".align " ++ t)) (sym r.is)
    (subst (λ y. Line (pad r.a r.m) (codes ".align " ++ y)) (sym r.text) (reading.aligned r.add r.multiple r.least))

dot_line : (w : Word) (s : Stmt) (t : List ℕ) → In w dot_words → Says w s t → Line s t
dot_line w s t here (v, (z, g)) = subst (λ y. Line s y) (sym z) (global_line s v g)
dot_line w s t (there here) (v, (z, g)) = subst (λ y. Line s y) (sym z) (local_line s v g)
dot_line w s t (there (there here)) (v, (z, g)) = subst (λ y. Line s y) (sym z) (org_line s v g)
dot_line w s t (there (there (there here))) (v, (z, g)) = subst (λ y. Line s y) (sym z) (bytes_line s v (items_line bytes 15 [] s v g))
dot_line w s t (there (there (there (there here)))) (v, (z, g)) = subst (λ y. Line s y) (sym z)
    (words_line s v (items_line words 15 [] s v g))
dot_line w s t (there (there (there (there (there here))))) (q, z) = subst (λ y. Line y t) (sym q)
    (subst (λ y. Line (comment []) y) (sym z) no_bytes)
dot_line w s t (there (there (there (there (there (there here)))))) (v, (z, g)) = subst (λ y. Line s y) (sym z) (comment_line s v g)
dot_line w s t (there (there (there (there (there (there (there here))))))) (v, (z, g)) =
    subst (λ y. Line s y) (sym z) (align_line s v (align_of pad s v g))
dot_line w s t (there (there (there (there (there (there (there (there i)))))))) g = no_in w [] i refl

pub plan_line : (s : Stmt) (t : List ℕ) → Reads line_plan s t → Line s t
unfolding line_plan word_list Found
plan_line s t g = on ((trie_right 10 gone).sound word_list s t words_fit g)
  where
    on : Found word_list s t → Line s t
    on (w, (i, q)) = at (in_either w dot_words mnemonics i)
      where
        at : In w dot_words ⊎ In w mnemonics → Line s t
        at (inl j) = dot_line w s t j q
        at (inr j) = mnemonic_line w s t j q

-- ---- from the grammar to the plan

by_word : (w : Word) (s : Stmt) (t : List ℕ) → In w word_list → Says w s t → Reads line_plan s t
unfolding line_plan
by_word w s t i q = (trie_right 10 gone).full word_list w s t words_fit i q

by_dot : (w : Word) (s : Stmt) (t : List ℕ) → In w dot_words → Says w s t → Reads line_plan s t
unfolding word_list
by_dot w s t i q = by_word w s t (in_first w dot_words mnemonics i) q

by_mnemonic : (s : Stmt) (t : List ℕ) → (w : Word) × (In w mnemonics × Says w s t) → Reads line_plan s t
unfolding word_list
by_mnemonic s t (w, (i, q)) = by_word w s t (in_second w dot_words mnemonics i) q

byte_words : (es : List Expr) (t : List ℕ) → 1 ≤ length es → length es ≤ 16 → reading.Items 32 es t
    → Reads line_plan (bytes es) (codes ".byte" ++ t)
byte_words [] t l h i = absurd (omega arith)
byte_words (e ∷ es) t l h i =
    let b = first_item i in
    subst (λ y. Reads line_plan (bytes (e ∷ es)) (codes ".byte" ++ y)) (sym b.text)
    (by_dot (opening (codes ".byte ") (items_plan bytes 15 [])) (bytes (e ∷ es)) (codes ".byte" ++ (32 ∷ (b.u ++ b.v)))
    (there (there (there here)))
    (b.u ++ b.v, (refl, line_items bytes 15 [] (e ∷ es) (b.u ++ b.v) 32 l h (subst (λ y. reading.Items 32 (e ∷ es) y) b.text i))))

word_words : (es : List Expr) (t : List ℕ) → 1 ≤ length es → length es ≤ 16 → reading.Items 32 es t
    → Reads line_plan (words es) (codes ".word" ++ t)
word_words [] t l h i = absurd (omega arith)
word_words (e ∷ es) t l h i =
    let b = first_item i in
    subst (λ y. Reads line_plan (words (e ∷ es)) (codes ".word" ++ y)) (sym b.text)
    (by_dot (opening (codes ".word ") (items_plan words 15 [])) (words (e ∷ es)) (codes ".word" ++ (32 ∷ (b.u ++ b.v)))
    (there (there (there (there here))))
    (b.u ++ b.v, (refl, line_items words 15 [] (e ∷ es) (b.u ++ b.v) 32 l h (subst (λ y. reading.Items 32 (e ∷ es) y) b.text i))))

comment_words : (s : List ℕ) → every (λ b. leb b 255) s ≡ true → Reads line_plan (comment s) (codes ".comment" ++ comment_text s)
comment_words [] e = by_dot (closing (codes ".comment") (comment [])) (comment []) (codes ".comment")
    (there (there (there (there (there here))))) (refl, refl)
comment_words (b ∷ s) e =
    by_dot (opening (codes ".comment ") (finish comments)) (comment (b ∷ s)) (codes ".comment" ++ comment_text (b ∷ s))
    (there (there (there (there (there (there here))))))
    (each (λ b. hex_byte b) (b ∷ s), (refl, line_comment b s e))

label_words : {n : ℕ} {t : List ℕ} → reading.Name n t → Reads line_plan (label n) (t ++ (58 ∷ []))
label_words (reading.global {n = n} {t = t} l d) =
    by_dot (opening (codes "g") global_plan) (label n) (103 ∷ (t ++ (58 ∷ []))) here (t ++ (58 ∷ []), (refl, line_global n t l d))
label_words (reading.local {n = n} {t = t} l d) =
    by_dot (opening (codes ".l") local_plan) (label (0x8000 + n)) (46 ∷ 108 ∷ (t ++ (58 ∷ []))) (there here)
    (t ++ (58 ∷ []), (refl, line_local n t l d))

define_words : {n : ℕ} {s : List ℕ} (e : Expr) (t : List ℕ) → reading.Name n s → n < 0x8000 → Exp 5 e t
    → Reads line_plan (variable n e) (s ++ (61 ∷ t))
define_words e t (reading.global {n = n} {t = s} l d) h x =
    by_dot (opening (codes "g") global_plan) (variable n e) (103 ∷ (s ++ (61 ∷ t))) here (s ++ (61 ∷ t), (refl, line_defined n e s t l d x))
define_words e t (reading.local l d) h x = absurd (omega arith)

pub line_plan_lem : {s : Stmt} {t : List ℕ} → Line s t → Reads line_plan s t
line_plan_lem (reading.instruction {f = f} {xs = xs} {t = t} h a) = by_mnemonic (instr f xs 0) (mnemonic f ++ t) (line_mnemonic f xs t h a)
line_plan_lem (reading.labelled n) = label_words n
line_plan_lem (reading.defined {e = e} {t = t} n h x) = define_words e t n h x
line_plan_lem (reading.commented {s = s} e) = comment_words s e
line_plan_lem (reading.located {l = l} {t = t} d) = by_dot (opening (codes ".org ") org_plan) (org l) (codes ".org " ++ t)
    (there (there here)) (t, (refl, line_org l t d))
line_plan_lem (reading.byte_items {es = es} {t = t} l h i) = byte_words es t l h i
line_plan_lem (reading.word_items {es = es} {t = t} l h i) = word_words es t l h i
line_plan_lem (reading.aligned {a = a} {m = m} {s = s} {t = t} d e h) =
    by_dot (opening (codes ".align ") (align_plan pad)) (pad a m) (codes ".align " ++ (s ++ (44 ∷ t)))
    (there (there (there (there (there (there (there here)))))))
    (s ++ (44 ∷ t), (refl, of_align pad a m s t d e h))

-- ---- "each accepted line has one reading"

pub one_statement : (s r : Stmt) (t : List ℕ) → Line s t → Line r t → s ≡ r
one_statement s r t g h = one_line line_plan line_alive s r t (line_plan_lem g) (line_plan_lem h)

-- ---- the reader: what it reads, and the column where it is stuck

pub reads_line : (s : Stmt) (t r : List ℕ) → Walks line_plan t (got s r) → Line s t × (r ≡ [])
reads_line s t r g = let h : Reads line_plan s t × (r ≡ []) = fine_walk g line_alive in (plan_line s t h.0, h.1)

pub line_read : (s : Stmt) (t : List ℕ) → Line s t → Walks line_plan t (got s [])
line_read s t g = complete_walk (line_plan_lem g) line_alive

begins : (w : List ℕ) → Begun line_plan w → Begins w
begins w b = (b.more, (b.line, plan_line b.line (w ++ b.more) b.good))

begun : (w : List ℕ) → Begins w → Begun line_plan w
begun w (u, (s, g)) = record { more = u; line = s; good = line_plan_lem g }

wrong_at : (t : List ℕ) (c : ℕ) → Wrong line_plan t c → WrongAt t c
wrong_at t c x =
    record {
      within = x.within;
      before = begins (take c t) x.before;
      there = λ h b. x.there h (begun (take (suc c) t) b);
      ends = λ e g. x.ends e g.0 (line_plan_lem g.1);
    }

at_wrong : (t : List ℕ) (c : ℕ) → WrongAt t c → Wrong line_plan t c
at_wrong t c x =
    record {
      within = x.within;
      before = begun (take c t) x.before;
      there = λ h b. x.there h (begins (take (suc c) t) b);
      ends = λ e s g. x.ends e (s, plan_line s t g);
    }

pub column : (t r : List ℕ) → Walks line_plan t (stuck r) → WrongAt t (length t - length r)
column t r g = wrong_at t (length t - length r) (stuck_is line_plan line_alive t r g)

pub one_wrong : (t : List ℕ) (c d : ℕ) → WrongAt t c → WrongAt t d → c ≡ d
one_wrong t c d x y = one_column line_plan t c d (at_wrong t c x) (at_wrong t d y)
