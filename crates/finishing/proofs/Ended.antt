-- What the tables of an end form come to: a verdict, the text, the image, the places that its statements stem from.
use mathlib.Core.Path.{◌≡◌, refl, sym, ap, ◌∙◌}
use mathlib.Core.List.{[], ◌∷◌, map}
use mathlib.Core.Bool.{true}
use Prim.Native.Nat.{ℕ, suc}
use native.Mathlib.Omega.{arith}
use Rattle.std.specs.Prelude.{Result, Ok, Err}
use Rattle.laws.proofs.Tests.{false_true}
use Rattle.rules.specs.declared.Refusal.{Refusal}
use Rattle.rules.specs.Answers.{Judged, ok, no, judged_or, is_ok}
use Rattle.rules.specs.Programs.{Program, retarget}
use Rattle.rules.specs.Listing.{Beside}
use Rattle.rules.specs.Judging.{judge, assembles}
use Rattle.rules.specs.Output.{plain_target, write_back, stems_from, stems}
use Rattle.promises.proofs.Ranks.{gone_retarget}
use Rattle.listing.specs.Tables.{Held}
use Rattle.slots.specs.Slots.{Slots, program_of}
use Rattle.image.specs.Tables.{Tables, program, Ready}
use Rattle.image.specs.Encoding.{encode_slots}
use Rattle.image.specs.Image.{image_of}
use Rattle.output.specs.Lines.{listing_of, Positioned}
use Rattle.output.specs.Stems.{kept_to}
use Rattle.output.proofs.Listings.{stems_kept}
use Rattle.asm.specs.Verdicts.{verdict_as, JudgedAs}
use Rattle.finishing.specs.Ending.{result_of, Assembled}

-- ---- verdicts

pub good_ok : {A : Type 0} (x : Judged A) → (Ok tt) ≡ verdict_as x → is_ok x ≡ true
unfolding is_ok
good_ok (ok a) e = refl
good_ok (no r) e = absurd (let z : ◌≡◌ {A = ℕ} 0 1 = cc in omega arith)

pub bad_no : {A : Type 0} (x : Judged A) (q : Refusal) → Err q ≡ verdict_as x → x ≡ no q
bad_no (ok a) q e = absurd (let z : ◌≡◌ {A = ℕ} 0 1 = cc in omega arith)
bad_no (no r) q e = cc

-- a good verdict
pub assembled_by : (d : Tables) (r : Result (Unit {0}) Refusal) → r ≡ Ok tt → JudgedAs d r → Assembled d
unfolding assembles
assembled_by d r e v =
    record {
      ready = v.ready e;
      encodes = v.encodes e;
      good = good_ok (judge (program d)) (sym e ∙ v.answer);
    }

module _ (d : Tables) (h : Assembled d) where
  pub assembled_encodes : is_ok (encode_slots d) ≡ true
  unfolding assembles
  assembled_encodes = ap is_ok (sym h.encodes) ∙ h.good

  -- the image of the tables is the program's
  pub image_result : (b : Beside) (n : ℕ) → image_of d ≡ (result_of b (program d) n).image
  unfolding image_of result_of
  image_result b n = ap (λ x. judged_or x []) (sym h.encodes)

pub listing_result : (b : Beside) (t : Slots) (n : ℕ) → listing_of b t ≡ (result_of b (program_of t) n).listing
unfolding listing_of result_of
listing_result b t n = refl

-- numbers written back drop no statement
pub stems_write_back : (p : Program) → stems (write_back p) ≡ stems p
unfolding stems write_back stems_from
stems_write_back p = on 0 p
  where
    on : (i : ℕ) (q : Program) → stems_from i (map (λ s. retarget (plain_target p) s) q) ≡ stems_from i q
    on i [] = refl
    on i (s ∷ q) = rw (gone_retarget (plain_target p) s, on (suc i) q)

-- the slots that are left are those that its statements stem from
pub stems_result : (b : Beside) (t : Slots) (n : ℕ) → Held t.frames t.starts t.count
    → kept_to t.forms t.count ≡ (result_of b (program_of t) n).stems
unfolding result_of
stems_result b t n h = sym (stems_kept t h) ∙ sym (stems_write_back (program_of t))

pub count_result : (b : Beside) (q : Program) (n : ℕ) → n ≡ (result_of b q n).count
unfolding result_of
count_result b q n = refl

-- the positions that the tables hold are the program's
pub positioned : (d : Tables) → Ready d → Positioned d.slots d.positions
positioned d r = record { are = λ i l. r.position i (omega arith); low = λ i l. r.low i (omega arith) }

-- a program that assembles is not refused
pub not_refused {ℓ} : {X : Type ℓ} (d : Tables) (r : Result (Unit {0}) Refusal) (q : Refusal) → r ≡ Err q → JudgedAs d r → assembles (program d) ≡ true → X
unfolding assembles is_ok
not_refused d r q e v g =
    let b : judge (program d) ≡ no q = bad_no (judge (program d)) q (sym e ∙ v.answer) in
    false_true (rw b at g)
