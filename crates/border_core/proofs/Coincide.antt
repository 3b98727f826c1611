-- "Show that any two results allowed by the contract coincide", of each function for C: each number of the answer, and every lent byte.
use mathlib.Core.Path.{◌≡◌, sym, ◌∙◌, subst}
use mathlib.Core.List.{List}
use Prim.Native.Nat.{ℕ}
use Rattle.rules.specs.declared.Address.{Address}
use Rattle.rules.specs.declared.Refusal.{Refusal}
use Rattle.rules.specs.declared.Sizes.{Sizes}
use Rattle.std.specs.Prelude.{Result}
use Rattle.rules.specs.declared.Settings.{Settings}
use Rattle.rules.specs.Answers.{Judged}
use Rattle.rules.specs.Listing.{read_listing}
use Rattle.rules.specs.Run.{Output}
use Rattle.entries.proofs.Coincide.{one_stems}
use Rattle.printing.proofs.Coincide.{one_printed}
use Rattle.sits.specs.Sits.{sits, sits_as}
use Rattle.border_core.specs.declared.replies.Reply.{Reply}
use Rattle.border_core.specs.declared.replies.CountedReply.{CountedReply}
use Rattle.border_core.specs.declared.replies.SitsReply.{SitsReply}
use Rattle.border_core.specs.declared.pages.PrintedReply.{PrintedReply}
use Rattle.border_core.specs.declared.stems.StemsReply.{StemsReply}
use Rattle.border_core.specs.Replies.{counted_as, Says, SaysCounted, SaysSits, Assembles, Reads, Ends, Positions}
use Rattle.border_core.specs.Pages.{SaysPrinted, Prints}
use Rattle.border_core.specs.Stems.{SaysStems, HandsOut}

-- ---- an answer is said by one struct

pub one_reply : (a : Result Sizes Refusal) (r s : Reply) → Says r a → Says s a → r ≡ s
one_reply a r s h k =
    rw (
      h.number ∙ sym k.number,
      h.place ∙ sym k.place,
      h.argument ∙ sym k.argument,
      h.amount ∙ sym k.amount,
      h.listing ∙ sym k.listing,
      h.rewrites ∙ sym k.rewrites,
      h.image ∙ sym k.image,
    )

one_counted : (a : Result ℕ Refusal) (r s : CountedReply) → SaysCounted r a → SaysCounted s a → r ≡ s
one_counted a r s h k =
    rw (h.number ∙ sym k.number, h.place ∙ sym k.place, h.argument ∙ sym k.argument, h.amount ∙ sym k.amount, h.statements ∙ sym k.statements)

one_sits : (a : Result Address Refusal) (r s : SitsReply) → SaysSits r a → SaysSits s a → r ≡ s
one_sits a r s h k =
    rw (h.number ∙ sym k.number, h.place ∙ sym k.place, h.argument ∙ sym k.argument, h.amount ∙ sym k.amount, h.address ∙ sym k.address)

one_page_said : (a : Result Sizes Refusal) (r s : PrintedReply) → SaysPrinted r a → SaysPrinted s a → r ≡ s
one_page_said a r s h k =
    rw (
      h.number ∙ sym k.number,
      h.place ∙ sym k.place,
      h.argument ∙ sym k.argument,
      h.amount ∙ sym k.amount,
      h.page ∙ sym k.page,
      h.listing ∙ sym k.listing,
      h.rewrites ∙ sym k.rewrites,
      h.image ∙ sym k.image,
    )

one_said : (a : Result (Sizes × ℕ) Refusal) (r s : StemsReply) → SaysStems r a → SaysStems s a → r ≡ s
one_said a r s h k =
    rw (
      h.number ∙ sym k.number,
      h.place ∙ sym k.place,
      h.argument ∙ sym k.argument,
      h.amount ∙ sym k.amount,
      h.listing ∙ sym k.listing,
      h.rewrites ∙ sym k.rewrites,
      h.image ∙ sym k.image,
      h.stems ∙ sym k.stems,
    )

-- ---- the functions

-- a run that ends so: `mortarbee_optimize_jumps`, and border's `mortarbee_optimize_jumps_under`
pub one_end : (end : Judged Output) (out image : List ℕ) (r s : Reply) (x y v w : List ℕ)
    → Ends end r out image x v → Ends end s out image y w → (r ≡ s) × (x ≡ y) × (v ≡ w)
one_end end out image r s x y v w a b = (one_reply _ r s a.says b.says, a.listing_is ∙ sym b.listing_is, a.image_is ∙ sym b.image_is)

module _ (text : List ℕ) where
  -- `mortarbee_assemble`
  pub one_assembled : (room : List ℕ) (r s : Reply) (x y : List ℕ) → Assembles text r room x → Assembles text s room y → (r ≡ s) × (x ≡ y)
  one_assembled room r s x y a b = (one_reply _ r s a.says b.says, a.room_is ∙ sym b.room_is)

  -- `mortarbee_text`
  pub one_text : (room : List ℕ) (r s : Reply) (x y : List ℕ) → Reads text r room x → Reads text s room y → (r ≡ s) × (x ≡ y)
  one_text room r s x y a b = (one_reply _ r s a.says b.says, a.room_is ∙ sym b.room_is)

  -- `mortarbee_check`
  pub one_check : (r s : CountedReply) → SaysCounted r (counted_as (read_listing text)) → SaysCounted s (counted_as (read_listing text)) → r ≡ s
  one_check r s a b = one_counted _ r s a b

  -- `mortarbee_where_sits`
  pub one_place : (n : ℕ) (r s : SitsReply) → SaysSits r (sits_as (sits text n)) → SaysSits s (sits_as (sits text n)) → r ≡ s
  one_place n r s a b = one_sits _ r s a b

  -- `mortarbee_positions`
  pub one_table : (table : List ℕ) (r s : CountedReply) (x y : List ℕ) → Positions text r table x → Positions text s table y → (r ≡ s) × (x ≡ y)
  one_table table r s x y a b = (one_counted _ r s a.says b.says, a.table_is ∙ sym b.table_is)

  -- `mortarbee_print_run`
  pub one_page : (asked : Settings) (page image : List ℕ) (r s : PrintedReply) (x y v w : List ℕ)
      → Prints asked text r page image x v → Prints asked text s page image y w → (r ≡ s) × (x ≡ y) × (v ≡ w)
  one_page asked page image r s x y v w a b =
      let e = one_printed asked text page image a.answer b.answer x y v w a.leaves b.leaves in
      (one_page_said b.answer r s (subst (λ (z : Result Sizes Refusal). SaysPrinted r z) e.0 a.says) b.says, e.1, e.2)

  -- `mortarbee_stems`
  pub one_handed_out : (asked : Settings) (out image list : List ℕ) (r s : StemsReply) (x y v w l m : List ℕ)
      → HandsOut asked text r out image list x v l → HandsOut asked text s out image list y w m → (r ≡ s) × (x ≡ y) × (v ≡ w) × (l ≡ m)
  one_handed_out asked out image list r s x y v w l m a b =
      let e = one_stems asked text out image list a.answer b.answer x y v w l m a.leaves b.leaves in
      (one_said b.answer r s (subst (λ (z : Result (Sizes × ℕ) Refusal). SaysStems r z) e.0 a.says) b.says, e.1, e.2, e.3)
