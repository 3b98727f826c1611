-- What a tried rewrite says of others: of a choice, of a search by place, and of what the tables are where it does not count.
use mathlib.Core.Path.{◌≡◌, refl, sym, ap, ◌∙◌, subst}
use mathlib.Core.List.{List}
use mathlib.Core.Option.{Option, none, some}
use mathlib.Core.Bool.{Bool, true, false}
use Prim.Native.Nat.{ℕ, ◌+◌, ◌-◌, ◌≤◌, ◌<◌}
use Rattle.laws.specs.Options.{or_else, first_from, is_some, option_or}
use Rattle.laws.proofs.Options.{said_none, or_else_first, or_else_second, first_hit, first_miss, first_end}
use Rattle.laws.proofs.Tests.{true_false}
use Rattle.rules.specs.Programs.{Placeℕ, Program}
use Rattle.rules.specs.Rewriting.{anywhere}
use Rattle.slots.specs.Slots.{Slots, program_of}
use Rattle.slots.specs.Links.{Beside}
use Rattle.env.proofs.Programs.{length_program}
use Rattle.attempts.specs.Standing.{Standing, Tried}
use Rattle.attempts.specs.Deepest.{Deepest}

-- the same program under another name
pub tried_as : (x y : Option Program) {t u : Slots} {r : Bool} → x ≡ y → Tried x t u r → Tried y t u r
tried_as x y {t} {u} {r} e h = subst (λ (z : Option Program). Tried z t u r) e h

-- the same answer
pub tried_is : (x : Option Program) {t u : Slots} {r b : Bool} → r ≡ b → Tried x t u b → Tried x t u r
tried_is x {t} {u} e h = subst (λ (z : Bool). Tried x t u z) (sym e) h

-- nothing is tried
pub tried_none : (x : Option Program) {t : Slots} → x ≡ none → Standing t → Tried x t t false
tried_none x {t} e s =
    record {
      says = sym (ap is_some e);
      leaves = sym (ap (λ (o : Option Program). option_or o (program_of t)) e);
      kept = λ z. refl;
      starts_kept = refl;
      stands = s;
    }

-- what counts is what another name stands for
pub tried_found : (x y : Option Program) {t t₀ u : Slots} {r : Bool} → Tried x t u r → r ≡ true → ((q : Program) → x ≡ some q → y ≡ some q)
    → t.starts ≡ t₀.starts → Tried y t₀ u true
tried_found none y h e f k = true_false (sym e ∙ h.says)
tried_found (some q) y {t} {t₀} h e f k =
    let w = f q refl in
    record {
      says = sym (ap is_some w);
      leaves = h.leaves ∙ sym (ap (λ (o : Option Program). option_or o (program_of t₀)) w);
      kept = λ z. true_false z;
      starts_kept = h.starts_kept ∙ k;
      stands = h.stands;
    }

pub tried_missed : (x : Option Program) {t u : Slots} {r : Bool} → Tried x t u r → r ≡ false → x ≡ none
tried_missed x h e = said_none x (sym h.says ∙ e)

-- ---- the first of two

pub tried_first : (x y : Option Program) {t u : Slots} {r : Bool} → Tried x t u r → r ≡ true → Tried (or_else x y) t u r
tried_first x y h e = tried_is (or_else x y) e (tried_found x (or_else x y) h e (λ q d. or_else_first x y q d) refl)

-- the second, over tables that are what they were
pub tried_second : (x : Option Program) (F : Slots → Option Program) {t u v : Slots} {r : Bool} → x ≡ none → u ≡ t → Tried (F u) u v r
    → Tried (or_else x (F t)) t v r
tried_second x F {t} {u} {v} {r} e same h =
    tried_as (F t) (or_else x (F t)) (sym (or_else_second x (F t) e)) (subst (λ (s : Slots). Tried (F s) s v r) same h)

-- ---- the first place of n: the search stands at i, and the tables are what they were

module _ (F : Slots → (i : Placeℕ) → Option Program) (n i : ℕ) {t₀ t : Slots} (same : t ≡ t₀)
    (left : first_from (F t₀) n 0 ≡ first_from (F t₀) (n - i) i) where
  pub found : {u : Slots} {r : Bool} → i < n → Tried (F t i) t u r → r ≡ true → Tried (first_from (F t₀) n 0) t₀ u true
  found l h e = tried_found (F t i) (first_from (F t₀) n 0) h e (λ q d. left ∙ first_hit (F t₀) n i q l (ap (λ (s : Slots). F s i) (sym same) ∙ d)) (ap (λ (s : Slots). s.starts) same)

  pub missed : {u : Slots} {r : Bool} → i < n → Tried (F t i) t u r → r ≡ false → first_from (F t₀) n 0 ≡ first_from (F t₀) (n - (i + 1)) (i + 1)
  missed l h e = left ∙ first_miss (F t₀) n i l (ap (λ (s : Slots). F s i) (sym same) ∙ tried_missed (F t i) h e)

  pub ended : n ≤ i → Standing t₀ → Tried (first_from (F t₀) n 0) t₀ t false
  ended l s =
      subst (λ (z : Slots). Tried (first_from (F t₀) n 0) t₀ z false) (sym same)
      (tried_none (first_from (F t₀) n 0) (left ∙ first_end (F t₀) n i l) s)

-- anywhere in the program that the tables hold
pub anywhere_is : (f : Placeℕ → Option Program) (t : Slots) → first_from f t.count 0 ≡ anywhere f (program_of t)
unfolding anywhere
anywhere_is f t = sym (ap (λ (n : ℕ). first_from f n 0) (length_program t))

-- the same tables stand
pub still_stands : {t₀ t : Slots} → t ≡ t₀ → Standing t₀ → Standing t
still_stands same s = subst (λ (z : Slots). Standing z) (sym same) s

-- and their inner labels reach as deep
pub still_deep : {deepest : List ℕ} {t₀ t : Slots} → t ≡ t₀ → Deepest t₀ deepest → Deepest t deepest
still_deep {deepest} same d = subst (λ (z : Slots). Deepest z deepest) (sym same) d

-- and the links stand beside their frames
pub still_beside : {links : List ℕ} {t₀ t : Slots} → t ≡ t₀ → Beside t₀.frames t₀.starts t₀.count links → Beside t.frames t.starts t.count links
still_beside {links} same b = subst (λ (z : Slots). Beside z.frames z.starts z.count links) (sym same) b
