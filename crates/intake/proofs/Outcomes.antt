-- What the entry leaves, case by case. Assumes nothing.
use mathlib.Core.Path.{◌≡◌, refl, sym, ap, ◌∙◌}
use mathlib.Core.Bool.{Bool, true, false, cond}
use mathlib.Core.List.{List}
use Prim.Native.Nat.{ℕ, ◌≤◌, ◌<◌}
use native.Mathlib.Omega.{arith}
use lib.Dec.{leb}
use lib.ListN.{length}
use borrow.Author.Tests.{le-leb, lt-leb}
use Rattle.std.specs.Prelude.{Err, Ok}
use Rattle.rules.specs.declared.Refusal.{Refusal}
use Rattle.rules.specs.declared.Refusal.TheVariants.{Room}
use Rattle.rules.specs.Answers.{Judged, ok, no}
use Rattle.rules.specs.Listing.{lines_of}
use Rattle.digits.proofs.Left.{refused, written}
use Rattle.intake.specs.Intake.{Takes, listing_of, in_room, Leaves}
use Rattle.intake.specs.Turns.{Counted, Roomy, Writes}

-- a line is refused
pub unread : (text room : List ℕ) (r : Refusal) → Takes 0 0 (lines_of text) (no r) → Leaves text (Err r) room room
unread text room r t = record { judged = no r; takes = t; leaves = refused (no r) r room refl }

module _ (text room : List ℕ) (count chars : ℕ) (m : Counted text count chars) where
  abbrev all : List ℕ
  all = listing_of m.p

  abbrev judged : Judged (List ℕ)
  judged = in_room (length room) (ok m.p)

  judged_is : (b : Bool) → leb (length all) (length room) ≡ b → judged ≡ cond b (ok all) (no (Room (length m.p)))
  judged_is b e = ap (λ (c : Bool). cond c (ok all) (no (Room (length m.p)))) e

  -- 12
  pub short : length room < chars → Leaves text (Err (Room count)) room room
  short h =
      let e : leb (length all) (length room) ≡ false = lt-leb (length all) (length room) (omega (arith, m.characters)) in
      record {
        judged = ok m.p;
        takes = m.takes;
        leaves = refused judged (Room count) room (judged_is false e ∙ ap (λ (n : ℕ). no (Room n)) (sym m.statements));
      }

  -- the whole listing
  pub roomy : chars ≤ length room → Roomy text (length room)
  roomy h = (m.p, (m.takes, omega (arith, m.characters)))

  pub done : (after : List ℕ) → chars ≤ length room → Writes text room after
      → Leaves text (Ok (record { listing = chars; rewrites = 0; image = 0 })) room after
  done after h w =
      let e : leb (length all) (length room) ≡ true = le-leb (length all) (length room) (omega (arith, m.characters)) in
      record {
        judged = ok m.p;
        takes = m.takes;
        leaves = written judged all chars room after (judged_is true e) m.characters (w m.p m.takes);
      }
