-- The listing of a text that is read, line by line in a room that holds it. Assumes nothing.
use mathlib.Core.Path.{◌≡◌, refl, sym, ap, ◌∙◌, subst}
use mathlib.Core.List.{List, [], ◌∷◌, ◌++◌, append_assoc}
use Prim.Native.Nat.{ℕ, ◌+◌, ◌*◌, ◌≤◌, ◌<◌}
use native.Mathlib.Omega.{arith}
use lib.ListN.{length, take, drop, length-drop}
use Rattle.laws.proofs.Tests.{clash}
use Rattle.rules.specs.declared.Refusal.{Refusal}
use Rattle.rules.specs.Answers.{Judged, ok, no}
use Rattle.rules.specs.Programs.{Stmt, Program}
use Rattle.rules.specs.Listing.{lines_of}
use Rattle.rules.specs.Output.{frame_of, line_of, text_of, lines_in}
use Rattle.listing.specs.Lines.{first_line}
use Rattle.listing.proofs.FirstLine.{lines_are}
use Rattle.digits.specs.Digits.{laid}
use Rattle.digits.proofs.Rooms.{laid_more, laid_nothing, length_line}
use Rattle.intake.specs.Intake.{Judges, Takes, listing_of}
use Rattle.intake.specs.Turns.{Framed, Roomy, Writes}
use Rattle.intake.proofs.Coincide.{one_judged, one_taken}
use Rattle.intake.proofs.Steps.{Upto, starts, step, taken, first_read, whole, listing_more, length_more, length_both}

-- the lines before byte q are the statements p and stand in the room; what is left is read as r
pub record Stands (text before : List ℕ) (q i sum : ℕ) (out : List ℕ) : Type 0 where
  pub p : Program
  pub r : Program
  pub so_far : Upto text q i sum p
  pub left : Takes i sum (lines_of (drop q text)) (ok r)
  pub fits : length (listing_of (p ++ r)) ≤ length before
  pub size : length out ≡ length before
  pub is : out ≡ laid before 0 (listing_of p)

pub begins : (text before : List ℕ) → Roomy text (length before) → Stands text before 0 0 0 before
unfolding text_of lines_in
begins text before h =
    record { p = []; r = h.0; so_far = starts text; left = h.1.0; fits = h.1.1; size = refl; is = sym (laid_nothing before 0) }

module _ {text before : List ℕ} {q i sum : ℕ} {out : List ℕ} (w : Stands text before q i sum out) where
  pub ends : length text ≤ q → Writes text before out
  ends h p t = w.is ∙ ap (λ (x : Program). laid before 0 (listing_of x)) (same (one_taken (whole w.so_far h) t))
    where
      same : {x y : Program} → ◌≡◌ {A = Judged Program} (ok x) (ok y) → x ≡ y
      same e = cc

  module _ (some : q < length text) where
    -- no line is refused
    pub unrefused : {X : Type 0} (r : Refusal) → Judges i sum (first_line (drop q text)) (no r) → X
    unrefused r h =
        let there : 0 < length (drop q text) = omega (arith, length-drop q text) in
        let o = first_read (subst (λ ls. Takes i sum ls (ok w.r)) (lines_are (drop q text) there) w.left) in
        clash (apart (one_judged o.1.1.1.0 h))
      where
        apart : {s : Stmt} {r : Refusal} → ◌≡◌ {A = Judged Stmt} (ok s) (no r) → ◌≡◌ {A = ℕ} 0 1
        apart e = cc

    module _ {room : List ℕ} {end n : ℕ} (f : Framed i sum (drop q text) room end n) where
      abbrev more : Program
      more = w.p ++ (f.s ∷ [])

      abbrev rest : Program
      rest = (taken w.so_far some f w.r w.left).0

      all : w.p ++ w.r ≡ more ++ rest
      all =
          ap (λ (x : Program). w.p ++ x) (taken w.so_far some f w.r w.left).1.0
          ∙ sym (append_assoc w.p (f.s ∷ []) rest)

      -- its line has room
      pub room_for : sum + i + (2 * n + 1) ≤ length before
      room_for =
          let e = ap (λ (x : Program). length (listing_of x)) all in
          omega (arith, w.fits, e, length_both more rest, length_more w.p f.s, w.so_far.size, f.size)

      -- and stands there
      pub goes_on : (after : List ℕ) → after ≡ laid out (sum + i) (line_of (take n room)) → length after ≡ length out
          → Stands text before (q + end) (i + 1) (sum + 2 * n) after
      goes_on after e k =
          let x = line_of (frame_of f.s) in
          let m : length x ≡ 2 * n + 1 = omega (arith, length_line (frame_of f.s), f.size) in
          record {
            p = more;
            r = rest;
            so_far = step w.so_far some f;
            left = (taken w.so_far some f w.r w.left).1.1;
            fits = subst (λ (y : Program). length (listing_of y) ≤ length before) all w.fits;
            size = k ∙ w.size;
            is =
                e
                ∙ ap (λ (y : List ℕ). laid out (sum + i) (line_of y)) f.frame
                ∙ ap (λ (o : List ℕ). laid o (sum + i) x) w.is
                ∙ laid_more before (listing_of w.p) x 0 (sum + i) (omega (arith, w.so_far.size)) (omega (arith, m, room_for))
                ∙ ap (laid before 0) (sym (listing_more w.p f.s));
          }
