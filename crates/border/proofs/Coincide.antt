-- "Show that any two results allowed by the contract coincide", of each function for C: each number of the answer, and every lent byte. Those of
-- border_core are in its own.
use mathlib.Core.Path.{◌≡◌, sym, ◌∙◌}
use mathlib.Core.List.{List}
use Prim.Native.Nat.{ℕ}
use lib.ListN.{length}
use Rattle.store.specs.declared.Setting.{Setting}
use Rattle.store.specs.declared.Edition.{Edition}
use Rattle.rules.specs.declared.Refusal.{Refusal}
use Rattle.std.specs.Prelude.{Result, Option}
use Rattle.readback.specs.ReadBack.{read_back}
use Rattle.readback.specs.Entry.{answer_as as read_as, room_as as read_room}
use Rattle.store.specs.Rooms.{get_in, newest_in, place_in, add_in, drop_in, after_add, after_drop, found_as, shown_as, numbered_as}
use Rattle.border_core.specs.declared.replies.Reply.{Reply}
use Rattle.border_core.specs.Replies.{asked_by, Says, Ends}
use Rattle.border_core.proofs.Coincide.{one_reply, one_end}
use Rattle.border.specs.declared.replies.NumberedReply.{NumberedReply}
use Rattle.border.specs.declared.replies.FoundReply.{FoundReply}
use Rattle.border.specs.declared.replies.ShownReply.{ShownReply}
use Rattle.border.specs.Exported.{run_under, SaysNumbered, SaysFound, SaysShown}

-- ---- an answer is said by one struct

one_numbered : (a : Result ℕ Refusal) (r s : NumberedReply) → SaysNumbered r a → SaysNumbered s a → r ≡ s
one_numbered a r s h k =
    rw (h.number ∙ sym k.number, h.place ∙ sym k.place, h.argument ∙ sym k.argument, h.amount ∙ sym k.amount, h.edition ∙ sym k.edition)

one_found : (a : Result Edition Refusal) (r s : FoundReply) → SaysFound r a → SaysFound s a → r ≡ s
one_found a r s h k =
    rw (
      h.number ∙ sym k.number,
      h.place ∙ sym k.place,
      h.argument ∙ sym k.argument,
      h.amount ∙ sym k.amount,
      h.edition ∙ sym k.edition,
      h.comments ∙ sym k.comments,
      h.callf ∙ sym k.callf,
      h.folds ∙ sym k.folds,
    )

one_shown : (a : Result (Option Setting) Refusal) (r s : ShownReply) → SaysShown r a → SaysShown s a → r ≡ s
one_shown a r s h k =
    rw (
      h.number ∙ sym k.number,
      h.place ∙ sym k.place,
      h.argument ∙ sym k.argument,
      h.amount ∙ sym k.amount,
      h.held ∙ sym k.held,
      h.family ∙ sym k.family,
      h.edition ∙ sym k.edition,
      h.comments ∙ sym k.comments,
      h.callf ∙ sym k.callf,
      h.folds ∙ sym k.folds,
    )

-- ---- C-24

-- `mortarbee_optimize_jumps_under`
pub one_under : (store : List ℕ) (f e : ℕ) (text out image : List ℕ) (r s : Reply) (x y v w : List ℕ)
    → let end = run_under store f e text (length out) (length image) in
    Ends end r out image x v → Ends end s out image y w → (r ≡ s) × (x ≡ y) × (v ≡ w)
one_under store f e text out image r s x y v w a b = one_end (run_under store f e text (length out) (length image)) out image r s x y v w a b

module _ (room : List ℕ) (f : ℕ) where
  -- `mortarbee_get_edition`
  pub one_edition : (e : ℕ) (r s : FoundReply) → SaysFound r (found_as (get_in room f e)) → SaysFound s (found_as (get_in room f e)) → r ≡ s
  one_edition e r s a b = one_found _ r s a b

  -- `mortarbee_get_newest`
  pub one_newest : (r s : FoundReply) → SaysFound r (found_as (newest_in room f)) → SaysFound s (found_as (newest_in room f)) → r ≡ s
  one_newest r s a b = one_found _ r s a b

  -- `mortarbee_show_place`
  pub one_shown_place : (k : ℕ) (r s : ShownReply) → SaysShown r (shown_as (place_in room k)) → SaysShown s (shown_as (place_in room k)) → r ≡ s
  one_shown_place k r s a b = one_shown _ r s a b

  -- `mortarbee_add_edition`
  pub one_added : (comments callf folds : ℕ) (r s : NumberedReply) (x y : List ℕ)
      → SaysNumbered r (numbered_as (add_in room f)) × (x ≡ after_add room f (asked_by comments callf folds))
      → SaysNumbered s (numbered_as (add_in room f)) × (y ≡ after_add room f (asked_by comments callf folds))
      → (r ≡ s) × (x ≡ y)
  one_added comments callf folds r s x y a b = (one_numbered _ r s a.0 b.0, a.1 ∙ sym b.1)

  -- `mortarbee_drop_old`
  pub one_dropped : (r s : NumberedReply) (x y : List ℕ)
      → SaysNumbered r (numbered_as (drop_in room f)) × (x ≡ after_drop room f)
      → SaysNumbered s (numbered_as (drop_in room f)) × (y ≡ after_drop room f)
      → (r ≡ s) × (x ≡ y)
  one_dropped r s x y a b = (one_numbered _ r s a.0 b.0, a.1 ∙ sym b.1)

-- ---- C-21: `mortarbee_read_back`
pub one_read_back : (image : List ℕ) (start : ℕ) (room : List ℕ) (r s : Reply) (x y : List ℕ)
    → Says r (read_as (read_back image start (length room))) × (x ≡ read_room (read_back image start (length room)) room)
    → Says s (read_as (read_back image start (length room))) × (y ≡ read_room (read_back image start (length room)) room)
    → (r ≡ s) × (x ≡ y)
one_read_back image start room r s x y a b = (one_reply _ r s a.0 b.0, a.1 ∙ sym b.1)
