-- "Show that any two results allowed by the contract coincide", of each public entry. `optimize_jumps` has one-result of promises.
use mathlib.Core.Path.{◌≡◌, sym, ◌∙◌}
use mathlib.Core.List.{List}
use Prim.Native.Nat.{ℕ}
use lib.ListN.{length}
use Rattle.rules.specs.declared.Refusal.{Refusal}
use Rattle.rules.specs.declared.Sizes.{Sizes}
use Rattle.std.specs.Prelude.{Result}
use Rattle.rules.specs.declared.Settings.{Settings}
use Rattle.rules.specs.Answers.{Judged}
use Rattle.rules.specs.Run.{Output, assembled}
use Rattle.fitting.specs.Fitting.{Leaves}
use Rattle.entries.specs.Stems.{run_stems, Stems}

-- `assemble`: the answer, and every byte of the room
pub one_assembled : (text room : List ℕ) (r s : Result Sizes Refusal) (x y : List ℕ) → Leaves (assembled text (length room)) r room x → Leaves (assembled text (length room)) s room y
    → (r ≡ s) × (x ≡ y)
one_assembled text room r s x y a b = (a.answer ∙ sym b.answer, a.room ∙ sym b.room)

-- `optimize_stems`: the answer, and every byte of the three rooms
pub one_stems : (asked : Settings) (text out image list : List ℕ) (r s : Result (Sizes × ℕ) Refusal) (x y v w l m : List ℕ)
    → (let end : Judged Output = run_stems asked text (length out) (length image) (length list) in
    Stems end r out image list x v l → Stems end s out image list y w m → (r ≡ s) × (x ≡ y) × (v ≡ w) × (l ≡ m))
one_stems asked text out image list r s x y v w l m a b =
    (a.answers ∙ sym b.answers, a.listing_is ∙ sym b.listing_is, a.image_is ∙ sym b.image_is, a.list_is ∙ sym b.list_is)
