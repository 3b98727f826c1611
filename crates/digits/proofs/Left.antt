-- What an entry leaves that writes one text into a lent room: on refusal, and where the text stands at its front. And that there is one result.
use mathlib.Core.Path.{◌≡◌, sym, ◌∙◌, ap}
use mathlib.Core.List.{List}
use Prim.Native.Nat.{ℕ}
use lib.ListN.{length}
use Rattle.rules.specs.declared.Sizes.{Sizes}
use Rattle.std.specs.Prelude.{Err, Result, Ok}
use Rattle.rules.specs.declared.Refusal.{Refusal}
use Rattle.rules.specs.Answers.{Judged, ok, no}
use Rattle.digits.specs.Digits.{laid}
use Rattle.digits.specs.Leaves.{answer_as, room_as, Leaves}
use Rattle.digits.proofs.Rooms.{laid_front}

pub refused : (x : Judged (List ℕ)) (r : Refusal) (room : List ℕ) → x ≡ no r → Leaves x (Err r) room room
refused x r room e = record { answer = sym (ap answer_as e); room = sym (ap (λ (y : Judged (List ℕ)). room_as y room) e) }

pub written : (x : Judged (List ℕ)) (text : List ℕ) (n : ℕ) (room after : List ℕ) → x ≡ ok text → n ≡ length text → after ≡ laid room 0 text
    → Leaves x (Ok (record { listing = n; rewrites = 0; image = 0 })) room after
written x text n room after e k w =
    record {
      answer = ap (λ (m : ℕ). Ok (record { listing = m; rewrites = 0; image = 0 })) k ∙ sym (ap answer_as e);
      room = w ∙ laid_front room text ∙ sym (ap (λ (y : Judged (List ℕ)). room_as y room) e);
    }

-- "Show that any two results allowed by the contract coincide": the answer, and every byte of the room
pub one_left : (x : Judged (List ℕ)) (room : List ℕ) (r s : Result Sizes Refusal) (a b : List ℕ) → Leaves x r room a → Leaves x s room b → (r ≡ s) × (a ≡ b)
one_left x room r s a b p q = (p.answer ∙ sym q.answer, p.room ∙ sym q.room)
