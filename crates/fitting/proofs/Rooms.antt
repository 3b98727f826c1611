-- A result and the room that it is to fit: refused with 12 where the room is too short, else in front of what the room held.
use mathlib.Core.Path.{◌≡◌, refl, sym, ap, ◌∙◌}
use mathlib.Core.List.{List, [], ◌++◌}
use mathlib.Core.Bool.{true}
use Prim.Native.Nat.{ℕ, ◌≤◌, ◌<◌}
use native.Mathlib.Omega.{arith}
use lib.ListN.{length, drop}
use borrow.Author.Tests.{le-leb, lt-leb}
use Rattle.std.specs.Prelude.{Err, Ok}
use Rattle.rules.specs.declared.Refusal.{Refusal}
use Rattle.rules.specs.declared.Refusal.TheVariants.{Room}
use Rattle.rules.specs.Answers.{Judged, ok, no, ◌>>=◌, require, judged_or, is_ok}
use Rattle.fitting.specs.Fitting.{fitted, answer_as, room_as, Leaves}

-- a result that is there
pub is_there : (x : Judged (List ℕ)) → is_ok x ≡ true → x ≡ ok (judged_or x [])
unfolding is_ok judged_or
is_there (ok b) e = refl
is_there (no r) e = absurd (let z : ◌≡◌ {A = ℕ} 0 1 = cc in omega arith)

module _ (x : Judged (List ℕ)) (b : List ℕ) (is : x ≡ ok b) (count : ℕ) (before : List ℕ) where
  fitted_short : length before < length b → fitted count (length before) x ≡ no (Room count)
  unfolding fitted ◌>>=◌ require
  fitted_short h = rw (is, lt-leb (length b) (length before) h)

  fitted_whole : length b ≤ length before → fitted count (length before) x ≡ ok b
  unfolding fitted ◌>>=◌ require
  fitted_whole h = rw (is, le-leb (length b) (length before) h)

  pub leaves_short : length before < length b → Leaves (fitted count (length before) x) (Err (Room count)) before before
  leaves_short h = let e = fitted_short h in record { answer = sym (ap answer_as e); room = sym (ap (λ y. room_as y before) e) }

  pub leaves_whole : (n : ℕ) (after : List ℕ) → length b ≤ length before → n ≡ length b → after ≡ b ++ drop (length b) before
      → Leaves (fitted count (length before) x) (Ok (record { listing = 0; rewrites = 0; image = n })) before after
  leaves_whole n after h k a =
      let e = fitted_whole h in
      record {
        answer = ap (λ m. Ok (record { listing = 0; rewrites = 0; image = m })) k ∙ sym (ap answer_as e);
        room = a ∙ sym (ap (λ y. room_as y before) e);
      }

-- a refusal that was given before
pub leaves_refused : (x : Judged (List ℕ)) (q : Refusal) (count : ℕ) (before : List ℕ) → x ≡ no q → Leaves (fitted count (length before) x) (Err q) before before
unfolding fitted ◌>>=◌
leaves_refused x q count before e = rw e (record { answer = refl; room = refl })
