-- "Show that any two results allowed by the contract coincide": what the entry states leaves one answer and one content of each room.
use mathlib.Core.Path.{◌≡◌, refl, sym, ◌∙◌, ap}
use mathlib.Core.List.{List}
use Prim.Native.Nat.{ℕ, ◌≤◌}
use lib.ListN.{length}
use Rattle.std.specs.Prelude.{Err, Result, Ok}
use Rattle.rules.specs.declared.Settings.{Settings}
use Rattle.rules.specs.declared.Sizes.{Sizes}
use Rattle.rules.specs.declared.Refusal.{Refusal}
use Rattle.rules.specs.Answers.{Judged, ok, no}
use Rattle.rules.specs.Run.{Output, run, answer_of, front, listing_after, image_after}
use Rattle.laws.proofs.Tests.{clash}
use Rattle.laws.proofs.Stores.{front_take, front_drop, front_length}
use Rattle.promises.specs.Demand2.{Answered, Filled, Delivered}
use Rattle.promises.proofs.Accepted.{accepted_iff}

module _ (asked : Settings) (text listing image : List ℕ) where
  -- one-result: two answers that the contract allows are the same answer, and leave the same in both rooms
  pub one_result : (a b : Result Sizes Refusal) (la ia lb ib : List ℕ) → Answered asked text listing image a la ia → Answered asked text listing image b lb ib → (a ≡ b) × (la ≡ lb) × (ia ≡ ib)
  one_result a b la ia lb ib x y = (x.answers ∙ sym y.answers, x.listing_is ∙ sym y.listing_is, x.image_is ∙ sym y.image_is)

  -- "a refusal changes no byte we lent"
  pub refusal_changes_nothing : (r : Refusal) (l i : List ℕ) → Answered asked text listing image (Err r) l i → (l ≡ listing) × (i ≡ image)
  refusal_changes_nothing r l i x = on (run asked text (length listing) (length image)) x.answers x.listing_is x.image_is
    where
      on : (j : Judged Output) → Err r ≡ answer_of j → l ≡ listing_after j listing → i ≡ image_after j image → (l ≡ listing) × (i ≡ image)
      on (ok o) e p q = clash (cc)
      on (no s) e p q = (p, q)

  -- and the refusal that is answered is the run's
  pub refused_by : (r : Refusal) (l i : List ℕ) → Answered asked text listing image (Err r) l i → run asked text (length listing) (length image) ≡ no r
  refused_by r l i x = on (run asked text (length listing) (length image)) x.answers
    where
      on : (j : Judged Output) → Err r ≡ answer_of j → j ≡ no r
      on (ok o) e = clash (cc)
      on (no s) e = cc

  -- "On acceptance, room beyond the result is unchanged": each room holds its result in front, and the sizes are those of the results
  pub acceptance_delivers : (sizes : Sizes) (l i : List ℕ) → Answered asked text listing image (Ok sizes) l i → Delivered asked text listing image sizes l i
  acceptance_delivers sizes l i x = on (run asked text (length listing) (length image)) refl x.answers x.listing_is x.image_is
    where
      filled : (result room room' : List ℕ) → length result ≤ length room → room' ≡ front result room → Filled result room room'
      filled result room room' h e =
          record {
            front = front_take result room room' (length result) e refl;
            beyond = front_drop result room room' (length result) e refl;
            as_long = front_length result room room' (length result) e refl h;
          }

      on : (j : Judged Output) → run asked text (length listing) (length image) ≡ j → Ok sizes ≡ answer_of j → l ≡ listing_after j listing → i ≡ image_after j image → Delivered asked text listing image sizes l i
      on (ok o) r e p q =
          let a = (accepted_iff asked text (length listing) (length image) o).0 r in
          let z : sizes ≡ record { listing = length o.listing; rewrites = o.count; image = length o.image } = cc in
          record {
            output = o;
            accepted = r;
            listing_size = ap (λ (s : Sizes). s.listing) z;
            rewrites = ap (λ (s : Sizes). s.rewrites) z;
            image_size = ap (λ (s : Sizes). s.image) z;
            listing_room_holds = filled o.listing listing l a.listing_fits p;
            image_room_holds = filled o.image image i a.image_fits q;
          }
      on (no s) r e p q = clash (cc)
