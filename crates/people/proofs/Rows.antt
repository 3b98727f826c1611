-- A line by the word that it begins with. Assumes nothing.
use mathlib.Core.Path.{◌≡◌, sym, ap, ◌∙◌, subst}
use mathlib.Core.Logic.{◌⊎◌, inl, inr}
use mathlib.Core.List.{List, [], ◌∷◌, ◌++◌}
use Prim.Native.Nat.{ℕ, ◌≤◌, ◌<◌}
use native.Mathlib.Omega.{arith}
use lib.ListN.{length, drop}
use lib.Seq.{drop-drop}
use Rattle.std.specs.Prelude.{Ok, Err, Result}
use Rattle.laws.specs.Lists.{each, total}
use Rattle.instruction.proofs.Entries.{NoneIn}
use Rattle.rules.specs.Patterns.{codes}
use Rattle.rules.specs.Programs.{Stmt, instr, comment, bytes, words, pad}
use Rattle.rules.specs.Output.{frame_of}
use Rattle.grammar.specs.Reading.{look}
use Rattle.grammar.specs.Going.{got}
use Rattle.plans.specs.Plans.{Plan, finish, Walks}
use Rattle.plans.specs.Words.{Word, opening, closing, In, here, there}
use Rattle.plans.specs.Families.{mnemonics}
use Rattle.plans.specs.Finals.{comments}
use Rattle.plans.specs.Lines.{global_plan, local_plan, org_plan, items_plan, align_plan, dot_words, word_list, line_plan}
use Rattle.plans.specs.Fronts.{common, spelling, opens, Matches, Far}
use Rattle.plans.proofs.Fronts.{common_within, line_opens, line_closes, line_misses}
use Rattle.plans.proofs.Lined.{in_first}
use Rattle.openings.specs.Numbered.{word_at}
use Rattle.openings.proofs.Numbered.{number_in}
use Rattle.laying.specs.Laying.{Added}
use Rattle.laying.proofs.Laying.{nothing_stands}
use Rattle.laying.specs.Speaking.{Held, Spoken}
use Rattle.laying.proofs.Speaking.{through, first_byte}

-- ---- a word that opens the line, and one that is the line

opened : (x : List ℕ) (P : Plan) (s : List ℕ) (n : ℕ) (a : List ℕ) (r : Result ℕ ℕ) → In (opening x P) word_list → s ≡ x ++ drop n s
    → Spoken P s n a r → Spoken line_plan s 0 a r
opened x P s n a r i e g = through line_plan P s 0 n a r (λ o w. subst (λ t. Walks line_plan t o) (sym e) (line_opens x P (drop n s) o i w))
    g

closed : (x : List ℕ) (y : Stmt) (s : List ℕ) (a : List ℕ) (to : ℕ) → In (closing x y) word_list → s ≡ x → Held a to y
    → Spoken line_plan s 0 a (Ok to)
closed x y s a to i e h = (y, (subst (λ t. Walks line_plan t (got y [])) (sym e) (line_closes x y i), h))

-- ---- by number

module _ (s : List ℕ) (n i : ℕ) (l : i < 76) (m : Matches (opens (word_at i)) (spelling (word_at i)) s n) where
  opening_at : (x : List ℕ) (P : Plan) → word_at i ≡ opening x P → In (opening x P) word_list × ((n ≤ length s) × (s ≡ x ++ drop n s))
  opening_at x P e = (subst (λ w. In w word_list) e (number_in i l), subst (λ w. Matches (opens w) (spelling w) s n) e m)

  pub row_within : (x : List ℕ) (P : Plan) → word_at i ≡ opening x P → n ≤ length s
  row_within x P e = (opening_at x P e).1.0

  pub row_opens : (x : List ℕ) (P : Plan) (a : List ℕ) (r : Result ℕ ℕ) → word_at i ≡ opening x P → Spoken P s n a r → Spoken line_plan s 0 a r
  row_opens x P a r e g = let y = opening_at x P e in opened x P s n a r y.0 y.1.1 g

  pub row_closes : (x : List ℕ) (y : Stmt) (a : List ℕ) (to : ℕ) → word_at i ≡ closing x y → Held a to y → Spoken line_plan s 0 a (Ok to)
  row_closes x y a to e h = closed x y s a to (subst (λ w. In w word_list) e (number_in i l))
      (subst (λ w. Matches (opens w) (spelling w) s n) e m) h

-- ---- the dot words

pub at_70 : (i : ℕ) → i ≡ 70 → word_at i ≡ opening (codes ".comment ") (finish comments)
unfolding word_at
at_70 i e = ap word_at e

pub at_71 : (i : ℕ) → i ≡ 71 → word_at i ≡ opening (codes ".org ") org_plan
unfolding word_at
at_71 i e = ap word_at e

pub at_72 : (i : ℕ) → i ≡ 72 → word_at i ≡ opening (codes ".byte ") (items_plan bytes 15 [])
unfolding word_at
at_72 i e = ap word_at e

pub at_73 : (i : ℕ) → i ≡ 73 → word_at i ≡ opening (codes ".word ") (items_plan words 15 [])
unfolding word_at
at_73 i e = ap word_at e

pub at_74 : (i : ℕ) → i ≡ 74 → word_at i ≡ opening (codes ".align ") (align_plan pad)
unfolding word_at
at_74 i e = ap word_at e

pub at_75 : (i : ℕ) → i ≡ 75 → word_at i ≡ closing (codes ".comment") (comment [])
unfolding word_at
at_75 i e = ap word_at e

pub comment_held : (b a : List ℕ) (to : ℕ) → length b ≡ 120 → Added b a 0 to (4 ∷ []) 0 → Held a to (comment [])
unfolding frame_of
comment_held b a to e x = x.adds [] 0 (nothing_stands b e)

pub form_held : (b₀ b₁ b₂ : List ℕ) (f p to : ℕ) → length b₀ ≡ 120 → Added b₀ b₁ 0 p (1 ∷ []) 0 → Added b₁ b₂ p to (f ∷ []) 0
    → Held b₂ to (instr f [] 0)
unfolding frame_of each total
form_held b₀ b₁ b₂ f p to e x y = y.adds (1 ∷ []) 0 (x.adds [] 0 (nothing_stands b₀ e))

-- ---- names, and no word at all

dot_in : (w : Word) → In w dot_words → In w word_list
unfolding word_list
dot_in w i = in_first w dot_words mnemonics i

pub global_spoken : (s : List ℕ) (a : List ℕ) (r : Result ℕ ℕ) → look s ≡ 103 → Spoken global_plan s 1 a r → Spoken line_plan s 0 a r
global_spoken s a r e g = opened (codes "g") global_plan s 1 a r (dot_in (opening (codes "g") global_plan) here) (first_byte s 102 e) g

pub local_spoken : (s : List ℕ) (a : List ℕ) (r : Result ℕ ℕ) → look s ≡ 46 → look (drop 1 s) ≡ 108 → Spoken local_plan s 2 a r
    → Spoken line_plan s 0 a r
local_spoken s a r e q g =
    opened (codes ".l") local_plan s 2 a r (dot_in (opening (codes ".l") local_plan) (there here))
    (first_byte s 45 e ∙ ap (λ t. 46 ∷ t) (first_byte (drop 1 s) 107 q ∙ ap (λ t. 108 ∷ t) (drop-drop 1 1 s))) g

pub none_spoken : (s : List ℕ) (a : List ℕ) (c : ℕ) → Far word_list s c → Spoken line_plan s 0 a (Err c)
none_spoken s a c f = (line_misses s c f, on f.some)
  where
    on : (c ≡ 0) ⊎ ((w : Word) × (In w word_list × (common (spelling w) s ≡ c))) → c ≤ length s
    on (inl e) = omega arith
    on (inr (w, (i, e))) = omega (arith, common_within (spelling w) s)

pub two_bytes : (s : List ℕ) → (look s ≡ 46) × (look (drop 1 s) ≡ 108) → 2 ≤ length s
two_bytes [] e = absurd (omega (arith, e.0))
two_bytes (b ∷ []) e = absurd (omega (arith, e.1))
two_bytes (b ∷ c ∷ t) e = omega arith

-- the last of the rows
pub last_row : (i : ℕ) → 70 ≤ i → i < 76 → NoneIn i (74 ∷ 73 ∷ 72 ∷ 71 ∷ 70 ∷ []) → i ≡ 75
last_row i l h n = omega (arith, n.1, n.0.1, n.0.0.1, n.0.0.0.1, n.0.0.0.0.1)
