-- C-18: comments left out. A comment takes no room, defines no name and has no byte, so that a program without its comments is judged as it was.
use mathlib.Core.Path.{◌≡◌, refl, sym, ◌∙◌, ap, ap₂}
use mathlib.Core.Bool.{Bool, true, false, not, cond}
use mathlib.Core.List.{List, [], ◌∷◌, map}
use Prim.Native.Nat.{ℕ, zero, suc, ◌+◌}
use lib.IntN.{pos}
use lib.ListN.{length, length-map, get_or-map}
use Rattle.rules.specs.declared.Settings.{Settings}
use Rattle.rules.specs.Expressions.{num}
use Rattle.rules.specs.Programs.{Placeℕ, Operand, register, value, inner, Stmt, gone, instr, label, variable, comment, org, bytes, words, Program, at, as_name, on_last, retarget, pad}
use Rattle.rules.specs.Layout.{position}
use Rattle.rules.specs.Names.{Entry, enter, context_from, context_at}
use Rattle.rules.specs.Judging.{encode, judge, names_of}
use Rattle.rules.specs.Output.{plain_target, write_back, spoken, shown}
use Rattle.rules.proofs.Laws.{by_instr, other}
use Rattle.laws.specs.Lists.{every}
use Rattle.laws.proofs.Lists.{every_all, every_any}
use Rattle.promises.proofs.Compacts.{plain_stmt}
use Rattle.promises.proofs.Alike.{Alike, judge_alike}
use Rattle.promises.proofs.Positions.{SameRoom, AllSameRoom, room_same, position_same}
use Rattle.promises.proofs.Retargets.{Kept, positions_kept, same_alike}

-- a statement stays, or it is a comment and goes
pub by_spoken {ℓ} : (P : Stmt → Stmt → Type ℓ) (asked : Settings) → ((s : Stmt) → P s s) → ((x : List ℕ) → P (comment x) gone) → (s : Stmt) → P s (spoken asked s)
by_spoken P asked o g gone = o gone
by_spoken P asked o g (instr f xs c) = o (instr f xs c)
by_spoken P asked o g (label n) = o (label n)
by_spoken P asked o g (variable n e) = o (variable n e)
by_spoken P asked o g (comment x) = on asked.comments
  where
    on : (b : Bool) → P (comment x) (cond (not b) gone (comment x))
    on true = o (comment x)
    on false = g x
by_spoken P asked o g (org l) = o (org l)
by_spoken P asked o g (bytes es) = o (bytes es)
by_spoken P asked o g (words es) = o (words es)
by_spoken P asked o g (pad add m) = o (pad add m)

module _ (asked : Settings) (p : Program) where
  -- at each place
  pub at_shown : (i : Placeℕ) → at (shown asked p) i ≡ spoken asked (at p i)
  unfolding shown
  at_shown i = get_or-map (spoken asked) p i gone

  pub length_shown : length (shown asked p) ≡ length p
  unfolding shown
  length_shown = rw length-map

  -- each takes the room that it took
  pub shown_room : AllSameRoom p (shown asked p)
  shown_room =
      (length_shown, λ i. rw (at_shown i) (by_spoken SameRoom asked room_same (λ x. record { goes_on = λ q. refl; as_big = λ q. refl }) (at p i)))

  -- and stands where it stood
  pub shown_position : (i : Placeℕ) → position (shown asked p) i ≡ position p i
  shown_position i = position_same p (shown asked p) shown_room i

  comment_alike : (names : List Entry) (k : ℕ) (x : List ℕ) → Alike names p (shown asked p) k (comment x) gone
  unfolding encode as_name
  comment_alike names k x =
      record {
        goes_on = λ q. refl;
        enters = λ j. refl;
        called = refl;
        settled = λ i q. refl;
        defined = λ above i j q. refl;
        encoded = λ i q. refl;
        laid = λ q b rest. refl;
      }

  -- the image, or the refusal, is the same
  pub judge_shown : judge (shown asked p) ≡ judge p
  judge_shown =
      let kept : Kept p (shown asked p) = positions_kept p (shown asked p) shown_position in
      judge_alike p (shown asked p) (
        length_shown,
        λ i h. rw (at_shown i) (by_spoken (Alike (names_of p) p (shown asked p) (context_from 0 p i)) asked (same_alike p (shown asked p) kept (names_of p) (context_from 0 p i)) (comment_alike (names_of p) (context_from 0 p i)) (at p i)),
      )

  -- none gains an inner label
  pub shown_plain : every plain_stmt p ≡ true → every plain_stmt (shown asked p) ≡ true
  unfolding every
  shown_plain h =
      every_all plain_stmt (shown asked p) gone (λ i k. ap plain_stmt (at_shown i)
      ∙ by_spoken (λ s t. plain_stmt s ≡ true → plain_stmt t ≡ true) asked (λ s e. e) (λ x e. refl) (at p i) (every_any plain_stmt p i gone refl h))

-- ---- the contexts are what they were
context_shown : (asked : Settings) (k : ℕ) (p : Program) (i : Placeℕ) → context_from k (shown asked p) i ≡ context_from k p i
unfolding context_from shown
context_shown asked k [] i = refl
context_shown asked k (s ∷ p) zero = by_spoken (λ s t. enter k t ≡ enter k s) asked (λ s. refl) (λ x. refl) s
context_shown asked k (s ∷ p) (suc i) =
    ap (λ (j : ℕ). context_from j (shown asked p) i) (by_spoken (λ s t. enter k t ≡ enter k s) asked (λ s. refl) (λ x. refl) s) ∙ context_shown asked (enter k s) p i

pub shown_context : (asked : Settings) (p : Program) (i : Placeℕ) → context_at (shown asked p) i ≡ context_at p i
unfolding context_at
shown_context asked p i = context_shown asked 0 p i

-- ---- comments go before or after numbers are written back
last_ext : (f g : Operand → Operand) → ((x : Operand) → f x ≡ g x) → (xs : List Operand) → on_last f xs ≡ on_last g xs
last_ext f g h [] = refl
last_ext f g h (x ∷ []) = ap (λ (y : Operand). y ∷ []) (h x)
last_ext f g h (x ∷ y ∷ xs) = ap (λ (l : List Operand). x ∷ l) (last_ext f g h (y ∷ xs))

retarget_ext : (f g : Operand → Operand) → ((x : Operand) → f x ≡ g x) → (s : Stmt) → retarget f s ≡ retarget g s
retarget_ext f g h s =
    by_instr (λ s. retarget f s ≡ retarget g s) (λ k xs c. ap (λ (l : List Operand). instr k l c) (last_ext f g h xs)) (λ s n. other s (λ x. instr x.form (on_last f x.args) x.carried) s n ∙ sym (other s (λ x. instr x.form (on_last g x.args) x.carried) s n)) s

retarget_spoken : (asked : Settings) (f : Operand → Operand) (s : Stmt) → retarget f (spoken asked s) ≡ spoken asked (retarget f s)
retarget_spoken asked f gone = refl
retarget_spoken asked f (instr g xs c) = refl
retarget_spoken asked f (label n) = refl
retarget_spoken asked f (variable n e) = refl
retarget_spoken asked f (comment x) = on asked.comments
  where
    on : (b : Bool) → retarget f (cond (not b) gone (comment x)) ≡ cond (not b) gone (comment x)
    on true = refl
    on false = refl
retarget_spoken asked f (org l) = refl
retarget_spoken asked f (bytes es) = refl
retarget_spoken asked f (words es) = refl
retarget_spoken asked f (pad add m) = refl

pub write_back_shown : (asked : Settings) (p : Program) → write_back (shown asked p) ≡ shown asked (write_back p)
unfolding write_back shown
write_back_shown asked p = swap p
  where
    same : (x : Operand) → plain_target (shown asked p) x ≡ plain_target p x
    same (register r) = refl
    same (value e) = refl
    same (inner i o) = ap (λ (n : ℕ). value (num (pos (n + o)))) (shown_position asked p i)

    swap : (q : Program) → map (λ s. retarget (plain_target (shown asked p)) s) (shown asked q) ≡ shown asked (map (λ s. retarget (plain_target p) s) q)
    swap [] = refl
    swap (s ∷ q) =
        ap₂ (λ (x : Stmt) (l : Program). x ∷ l)
        (retarget_ext (plain_target (shown asked p)) (plain_target p) same (spoken asked s) ∙ retarget_spoken asked (plain_target p) s) (swap q)
