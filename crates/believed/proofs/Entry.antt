-- What an answer of `optimize_jumps` says, from its contract alone: the image that was written is read back by address; a refusal has its
-- own cause.
use mathlib.Core.Path.{◌≡◌, sym, ◌∙◌, ap, subst}
use mathlib.Core.List.{List}
use Prim.Native.Nat.{ℕ}
use lib.ListN.{length, take}
use Rattle.std.specs.Prelude.{Err, Ok}
use Rattle.rules.specs.declared.Settings.{Settings}
use Rattle.rules.specs.declared.Refusal.{Refusal}
use Rattle.rules.specs.declared.Sizes.{Sizes}
use Rattle.rules.specs.Run.{Output, output_of, rewritten}
use Rattle.promises.specs.Demand2.{Answered, Input}
use Rattle.promises.proofs.Accepted.{accepted_iff}
use Rattle.promises.proofs.OneResult.{refused_by, acceptance_delivers}
use Rattle.believed.specs.Causes.{RunShort, ByNumber}
use Rattle.believed.specs.Entry.{ReadBack}
use Rattle.believed.proofs.ByAddress.{both_images}
use Rattle.believed.proofs.Named.{names_alike}
use Rattle.believed.proofs.OwnCauses.{by_number}

module _ (asked : Settings) (text listing image : List ℕ) where
  -- read-back: `Ok sizes` says that the front of the image room is read back so
  pub read_back : (sizes : Sizes) (listing' image' : List ℕ) → Answered asked text listing image (Ok sizes) listing' image'
      → ReadBack asked text (take sizes.image image')
  unfolding output_of
  read_back sizes listing' image' x =
      let d = acceptance_delivers asked text listing image sizes listing' image' x in
      let o : Output = d.output in
      let a = (accepted_iff asked text (length listing) (length image) o).0 d.accepted in
      let h : Input a.program = record { text = text; reads = a.keeps_rules; image = a.image; assembles = a.assembles } in
      let b = both_images asked a.program h in
      let written : take sizes.image image' ≡ (rewritten asked a.program).image =
      ap (λ (n : ℕ). take n image') d.image_size ∙ d.image_room_holds.front ∙ ap (λ (y : Output). y.image) a.result in
      subst (ReadBack asked text) (sym written)
      (record {
        program = a.program;
        keeps_rules = a.keeps_rules;
        image = a.image;
        assembles = a.assembles;
        input = b.input;
        output = b.output;
        named = names_alike asked a.program h;
      })

  -- refused-by-number: `Err r` says that r has the cause of its number, and that nothing else has one
  pub refused_by_number : (r : Refusal) (listing' image' : List ℕ) → Answered asked text listing image (Err r) listing' image'
      → ByNumber text (RunShort asked text (length listing) (length image)) r
  refused_by_number r listing' image' x =
      by_number asked text (length listing) (length image) r (refused_by asked text listing image r listing' image' x)
