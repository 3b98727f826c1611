-- An accepted listing is the lines of its frames, behind the line that marks its form: so its frames say every byte of it.
use mathlib.Core.Path.{◌≡◌, refl, sym, ap, ap₂, ◌∙◌}
use mathlib.Core.List.{List, [], ◌∷◌, ◌++◌, map}
use mathlib.Core.Bool.{Bool, true, false, cond}
use Prim.Native.Nat.{ℕ, ◌≤◌}
use native.Mathlib.Omega.{arith}
use lib.Dec.{eqb}
use lib.ListN.{length, drop}
use borrow.Author.Tests.{eqb-true}
use Rattle.laws.specs.Lists.{every, each}
use Rattle.laws.proofs.Tests.{and_true, true_false}
use Rattle.rules.specs.Answers.{ok}
use Rattle.rules.specs.Programs.{Program}
use Rattle.rules.specs.Listing.{Line, ListingForm, onto_line, lines_of, form_in, statement_lines, unhex, read_listing}
use Rattle.rules.specs.Output.{line_of, mark_of}
use Rattle.listing.specs.Form.{form_of, is_marked, after_mark}
use Rattle.listing.proofs.Forms.{mark_form, mark_lines, marked_long}
use Rattle.pairing.specs.Pairings.{frames_of}
use Rattle.pairing.proofs.Accepted.{AllFine, ended_all, listing_read}
use Rattle.pairing.proofs.DigitsBack.{digits_back}

-- ---- a text whose lines are all ended is its lines
join_onto : (c : ℕ) (ls : List Line) → every (λ l. l.ended) (onto_line c ls) ≡ true
    → each (λ l. l.chars ++ (10 ∷ [])) (onto_line c ls) ≡ c ∷ each (λ l. l.chars ++ (10 ∷ [])) ls
unfolding every each
join_onto c [] e = true_false (sym e)
join_onto c (l ∷ ls) e = refl

onto_ended : (c : ℕ) (ls : List Line) → every (λ l. l.ended) (onto_line c ls) ≡ true → every (λ l. l.ended) ls ≡ true
unfolding every
onto_ended c [] e = refl
onto_ended c (l ∷ ls) e = e

lines_join : (t : List ℕ) → every (λ l. l.ended) (lines_of t) ≡ true → each (λ l. l.chars ++ (10 ∷ [])) (lines_of t) ≡ t
unfolding lines_of
lines_join [] e = unfold each in refl
lines_join (c ∷ t) e = on (eqb c 10) refl e (lines_join t)
  where
    on : (b : Bool) → eqb c 10 ≡ b
        → every (λ l. l.ended) (cond b (record { chars = []; ended = true } ∷ lines_of t) (onto_line c (lines_of t))) ≡ true
        → (every (λ l. l.ended) (lines_of t) ≡ true → each (λ l. l.chars ++ (10 ∷ [])) (lines_of t) ≡ t)
        → each (λ l. l.chars ++ (10 ∷ [])) (cond b (record { chars = []; ended = true } ∷ lines_of t) (onto_line c (lines_of t))) ≡ c ∷ t
    on true q h below = unfold each every in rw (below h, eqb-true c 10 q)
    on false q h below = join_onto c (lines_of t) h ∙ ap (λ (s : List ℕ). c ∷ s) (below (onto_ended c (lines_of t) h))

-- ---- each line is its frame's
lines_frames : (ls : List Line) → AllFine ls
    → each (λ l. l.chars ++ (10 ∷ [])) ls ≡ each (λ f. line_of f) (map (λ l. unhex l.chars) ls)
unfolding each line_of
lines_frames [] h = refl
lines_frames (l ∷ ls) h =
    let w = h.0.written in
    rw (lines_frames ls h.1, digits_back l.chars w.digits w.even)

-- ---- the mark
mark_front : (t : List ℕ) → is_marked t ≡ true → t ≡ mark_of (form_of true) ++ drop 5 t
unfolding is_marked line_of each
mark_front t h = on t (marked_long t h) h
  where
    on : (s : List ℕ) → 5 ≤ length s → is_marked s ≡ true → s ≡ mark_of (form_of true) ++ drop 5 s
    on [] l e = absurd (omega arith)
    on (a ∷ []) l e = absurd (omega arith)
    on (a ∷ b ∷ []) l e = absurd (omega arith)
    on (a ∷ b ∷ c ∷ []) l e = absurd (omega arith)
    on (a ∷ b ∷ c ∷ d ∷ []) l e = absurd (omega arith)
    on (a ∷ b ∷ c ∷ d ∷ f ∷ s) l e =
        let p = and_true (eqb a 55) _ e in
        let q = and_true (eqb b 68) _ p.1 in
        let r = and_true (eqb c 48) _ q.1 in
        let u = and_true (eqb d 50) (eqb f 10) r.1 in
        rw (eqb-true a 55 p.0, eqb-true b 68 q.0, eqb-true c 48 r.0, eqb-true d 50 u.0, eqb-true f 10 u.1)

mark_text : (t : List ℕ) → t ≡ mark_of (form_of (is_marked t)) ++ after_mark t
unfolding after_mark
mark_text t = on (is_marked t) refl
  where
    on : (b : Bool) → is_marked t ≡ b → t ≡ mark_of (form_of b) ++ cond b (drop 5 t) t
    on true e = mark_front t e
    on false e = refl

pub text_of_frames : (t : List ℕ) (p : Program) → read_listing t ≡ ok p
    → t ≡ mark_of (form_in (lines_of t)) ++ each (λ f. line_of f) (frames_of t)
unfolding frames_of
text_of_frames t p e =
    let r = listing_read t p e in
    let ls = statement_lines (lines_of t) in
    let rest : after_mark t ≡ each (λ f. line_of f) (map (λ l. unhex l.chars) ls) =
    sym (lines_join (after_mark t) (ap (every (λ l. l.ended)) (sym (mark_lines t)) ∙ ended_all ls r.fine))
    ∙ ap (each (λ l. l.chars ++ (10 ∷ []))) (sym (mark_lines t)) ∙ lines_frames ls r.fine in
    mark_text t ∙ ap₂ (λ (w : ListingForm) (s : List ℕ). mark_of w ++ s) (sym (mark_form t)) rest
