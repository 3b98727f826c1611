-- C-23: input and output walk alike.
use mathlib.Core.Path.{◌≡◌, sym, ◌∙◌, ap, subst}
use mathlib.Core.List.{List, []}
use mathlib.Core.Logic.{⊎_elim}
use mathlib.Core.Option.{none}
use mathlib.Core.Bool.{true, false}
use Prim.Native.Nat.{ℕ, zero, suc, ◌≤◌}
use native.Mathlib.Omega.{arith}
use lib.ListN.{length, get_or}
use lib.IntN.{pos}
use Rattle.std.specs.Prelude.{Ok}
use Rattle.laws.specs.Lists.{total}
use Rattle.laws.proofs.Tests.{clash, none_some, true_false}
use Rattle.rules.specs.declared.Settings.{Settings}
use Rattle.rules.specs.Programs.{Placeℕ, Program}
use Rattle.rules.specs.Layout.{origin}
use Rattle.rules.specs.Rewriting.{anchor, optimized, instr_bytes}
use Rattle.rules.specs.Judging.{judge}
use Rattle.rules.specs.Output.{write_back, shown, compact, stems}
use Rattle.rules.specs.Run.{rewritten}
use Rattle.promises.specs.Demand2.{Input, output_program, own_from}
use Rattle.promises.proofs.Chains.{chain_keeps}
use Rattle.promises.proofs.ImageOfOutput.{image_of_output}
use Rattle.promises.proofs.OutputRoom.{keeps_total}
use Rattle.promises.proofs.ReadsBack.{reads_back, output_again}
use Rattle.promises.proofs.Shows.{write_back_shown}
use Rattle.walk.specs.Walk.{off_the_end, Walk, meets, halts, walk_from, walk, told}
use Rattle.walk.specs.SameWalk.{only_walked, Keeps, Empty, SameWalk, stem_of}
use Rattle.walk.proofs.Deeds.{found, nothing}
use Rattle.walk.proofs.Machines.{Deed, pass, list, jump, test, Machine, deed, is_pass, does, go, Head, head, steps_found, steps_nothing, go_stop, go_known}
use Rattle.walk.proofs.Links.{position_zero, origin_found, origin_nothing}
use Rattle.walk.proofs.Resolves.{Resolved, plain, passes_are, worth_all, resolved_walk}
use Rattle.walk.proofs.Folds.{Close, close_same, close_trans}
use Rattle.walk.proofs.Alikes.{Alike, alike_same, alike_trans}
use Rattle.walk.proofs.OneStep.{step_alike}
use Rattle.walk.proofs.Inputs.{no_constants, machine, first_laid, machine_worth, input_walk, anchor_resolved}
use Rattle.walk.proofs.Outputs.{Shown, shown_walk}
use Rattle.walk.proofs.Shows.{stems_length, shows_output, shows_again}
use Rattle.walk.proofs.Comments.{stems_written, shown_resolved}
use Rattle.walk.proofs.Again.{again_walked}

-- ---- with no byte at address 0
empty_walk : (p : Program) → origin p (Ok (pos 0)) ≡ none → Empty p
unfolding walk walk_from meets
empty_walk p e ts zero = rw e
empty_walk p e ts (suc n) = rw e

-- a machine that walks off the end at once has no deed
ends_at_once : (m : Machine) → (go 0 m 0 []).ending ≡ off_the_end → (n : ℕ) → 0 ≤ n → deed m n ≡ pass
unfolding go
ends_at_once m e = split (head m 0)
  where
    never : (b : ℕ) (x : Deed) → is_pass x ≡ false → (halts [] (does b x [])).ending ≡ off_the_end → (n : ℕ) → 0 ≤ n → deed m n ≡ pass
    never b pass h e = true_false h
    never b list h e = clash (cc)
    never b (jump d) h e = clash (cc)
    never b (test w d) h e = clash (cc)

    split : Head m 0 → (n : ℕ) → 0 ≤ n → deed m n ≡ pass
    split (found b l h z) = never b (deed m b) z (ap (λ mv. (halts [] mv).ending) (sym (steps_found m 0 b l h z [])) ∙ e)
    split (nothing h) = h

-- one-stem-each: the list of stems has an entry for each statement of the output
pub one_stem_each : (asked : Settings) (p : Program) → length (rewritten asked p).stems ≡ length (output_program asked p)
unfolding output_program rewritten
one_stem_each asked p =
    rw (← write_back_shown asked (optimized asked p).program) (ap length (stems_written (shown asked (optimized asked p).program)) ∙ stems_length (shown asked (optimized asked p).program))

module _ (asked : Settings) (p : Program) (in_p : Input p) (only : only_walked p ≡ true) where
  -- the end form as it is shown: with its comments or without
  abbrev end : Program
  end = shown asked (optimized asked p).program

  -- ---- the chain
  chained : (m : Machine) × Resolved (optimized asked p).program m × Alike (machine p in_p only) m
  unfolding optimized
  chained =
      chain_keeps asked (λ r. (m : Machine) × Resolved r m × Alike (machine p in_p only) m)
      (λ r q st h. let k = step_alike r q h.0 st h.1 in (k.0, k.1, alike_trans (machine p in_p only) h.0 k.0 h.2 k.2))
      (total instr_bytes p) (anchor p) (machine p in_p only, anchor_resolved p in_p only, alike_same (machine p in_p only))

  ends : (m : Machine) × Resolved end m × Alike (machine p in_p only) m
  ends = (chained.0, shown_resolved asked chained.1, chained.2)

  no_byte_end : origin p (Ok (pos 0)) ≡ none → origin end (Ok (pos 0)) ≡ none
  no_byte_end e = last ends.1 (off (ends.2.no_more 0 []))
    where
      first_pass : (n : ℕ) → 0 ≤ n → deed (machine p in_p only) n ≡ pass
      first_pass = split (head (machine p in_p only) 0)
        where
          split : Head (machine p in_p only) 0 → (n : ℕ) → 0 ≤ n → deed (machine p in_p only) n ≡ pass
          split (nothing h) = h
          split (found b l h z) =
              none_some _ (sym e ∙ ap (λ (a : ℕ). origin p (Ok (pos a))) (sym (position_zero p)) ∙ origin_found p (machine p in_p only) (first_laid p in_p only) (machine_worth p in_p only) 0 b l h z)

      stopped : go 0 (machine p in_p only) 0 [] ≡ record { nops = []; left = []; ending = off_the_end }
      stopped = go_stop 0 (machine p in_p only) 0 [] off_the_end (steps_nothing (machine p in_p only) 0 first_pass [])

      has_stopped : (go 0 (machine p in_p only) 0 []).ending ≡ off_the_end
      has_stopped = ap (λ (w : Walk). w.ending) stopped

      off : (n' : ℕ) × (n' ≤ 0) × Close (go n' ends.0 0 []) (go 0 (machine p in_p only) 0 []) → (go 0 ends.0 0 []).ending ≡ off_the_end
      off k =
          let z : 0 ≡ k.0 = omega (arith, k.1) in
          ap (λ (j : ℕ). (go j ends.0 0 []).ending) z ∙ ⊎_elim (λ h. clash (cc has_stopped)) (λ h. h ∙ has_stopped) k.2.stops

      last : Resolved end ends.0 → (go 0 ends.0 0 []).ending ≡ off_the_end → origin end (Ok (pos 0)) ≡ none
      last r h =
          ap (λ (a : ℕ). origin end (Ok (pos a))) (sym (position_zero end))
          ∙ origin_nothing end ends.0 (passes_are r).1 (worth_all r) 0 (ends_at_once ends.0 h)

  -- ---- whatever shows the end form
  shown_same : (o : Program) → Shown end o → SameWalk p o (λ i. get_or (stems end) i 0)
  shown_same o s =
      let r = ends.1 in
      record {
        forth = λ ts n.
            let k = ends.2.no_more n ts in
            record { steps = k.0; no_larger = k.1; keeps = kept (walk k.0 o ts) (go k.0 ends.0 0 ts) (go n (machine p in_p only) 0 ts) (walk n p ts) (shown_walk r s k.0 ts ∙ resolved_walk r k.0 ts) k.2 (sym (input_walk p in_p only n ts)) };
        back = λ ts n.
            let k = ends.2.no_fewer n ts in
            record { steps = k.0; no_fewer = k.1; alike = shown_walk r s n ts ∙ resolved_walk r n ts ∙ k.2 ∙ sym (input_walk p in_p only k.0 ts) };
        no_byte = λ e. let z = s.bytes_at 0 (no_byte_end e) in (z, empty_walk p e, empty_walk o z);
        never_astray = λ ts n. (
          λ e. go_known n (machine p in_p only) 0 ts (ap (λ (w : Walk). w.ending) (sym (input_walk p in_p only n ts)) ∙ e),
          λ e. go_known n ends.0 0 ts (ap (λ (w : Walk). w.ending) (sym (shown_walk r s n ts ∙ resolved_walk r n ts)) ∙ e),
        );
      }
    where
      kept : (w' a b w : Walk) → told (λ i. get_or (stems end) i 0) w' ≡ a → Close a b → b ≡ w → Keeps (λ i. get_or (stems end) i 0) w' w
      kept w' a b w e c f =
          let d = close_trans (told (λ i. get_or (stems end) i 0) w') a w (close_same _ _ e) (close_trans a b w c (close_same b w f)) in
          record { nops = d.nops; left = d.left; stops = λ h. ⊎_elim (λ g. absurd (h g)) (λ g. g) d.stops }

  written_is : compact (write_back end) ≡ output_program asked p
  unfolding output_program
  written_is = ap compact (write_back_shown asked (optimized asked p).program)

  stems_are : stems end ≡ (rewritten asked p).stems
  unfolding rewritten
  stems_are = sym (stems_written end) ∙ ap stems (write_back_shown asked (optimized asked p).program)

  as_output : (o : Program) → SameWalk p o (λ i. get_or (stems end) i 0) → SameWalk p o (stem_of asked p)
  as_output o w = subst (λ (l : List Placeℕ). SameWalk p o (λ i. get_or l i 0)) stems_are w

  shows : Shown end (output_program asked p)
  shows =
      let i = image_of_output asked p in_p in
      subst (λ (q : Program). Shown end q) written_is (shows_output end (plain ends.1) i.image (ap judge written_is ∙ i.of_output))

  shows_read : Shown end (own_from 0 (compact (write_back end)))
  shows_read = let b = reads_back asked p in_p in shows_again end (plain ends.1) _ (ap (λ (q : Program). judge (own_from 0 q)) written_is ∙ b.assembles)

  -- same-walk: the statements of the output walk as the input does
  pub same_walk : SameWalk p (output_program asked p) (stem_of asked p)
  same_walk = as_output (output_program asked p) (shown_same (output_program asked p) shows)

  -- same-walk-again: and so does what is read again from the output's listing
  pub same_walk_again : SameWalk p (own_from 0 (output_program asked p)) (stem_of asked p)
  same_walk_again =
      as_output (own_from 0 (output_program asked p))
      (subst (λ (q : Program). SameWalk p (own_from 0 q) (λ i. get_or (stems end) i 0)) written_is (shown_same (own_from 0 (compact (write_back end))) shows_read))

  -- output-walked: the listing that is handed out is such as C-23 speaks of
  pub output_walked : only_walked (own_from 0 (output_program asked p)) ≡ true
  output_walked = ap (λ (q : Program). only_walked (own_from 0 q)) (sym written_is) ∙ again_walked ends.1 shows_read

  input_again : Input (own_from 0 (output_program asked p))
  input_again = output_again asked p in_p (keeps_total asked p in_p (no_constants p in_p only))

-- second_run: what a second run makes of the output, under whatever settings, walks as the output does
pub second_run : (asked then : Settings) (p : Program) → Input p → only_walked p ≡ true
    → SameWalk (own_from 0 (output_program asked p)) (own_from 0 (output_program then (own_from 0 (output_program asked p)))) (stem_of then (own_from 0 (output_program asked p)))
second_run asked then p in_p only = same_walk_again then (own_from 0 (output_program asked p)) (input_again asked p in_p only) (output_walked asked p in_p only)
