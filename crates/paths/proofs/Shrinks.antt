-- A shrink: a shorter form that does the same, so that the machine stays.
use mathlib.Core.Path.{◌≡◌, refl, sym, ◌∙◌, ap}
use mathlib.Core.Logic.{⊎_elim, ◌≢◌}
use mathlib.Core.List.{List}
use mathlib.Core.Bool.{true, false, not}
use Prim.Native.Nat.{ℕ}
use native.Mathlib.Omega.{arith}
use lib.Dec.{eqb}
use lib.Seq.{get_or-set_other, get_or-set_same}
use borrow.Author.Tests.{not-true}
use Rattle.laws.specs.Lists.{every}
use Rattle.laws.proofs.Tests.{true_false, clash, eq_or_not, or_true, decide}
use Rattle.rules.specs.Forms.{is_unconditional, jmpf, not1}
use Rattle.rules.specs.Programs.{Operand, Stmt, gone, instr, naming_of, Program, at, on_instr, is_form, args_of, last_of}
use Rattle.rules.specs.Names.{enter, context_at, Key}
use Rattle.rules.specs.Judging.{names_of}
use Rattle.rules.specs.Rewriting.{holds_label, moving_of, skipped, is_change_jump}
use Rattle.promises.proofs.Steps.{Shrunk, shrink}
use Rattle.promises.proofs.Acceptable.{acceptable_parts}
use Rattle.promises.proofs.Weights.{instr_inside, step_length}
use Rattle.promises.proofs.Rises.{step_lowers}
use Rattle.walk.proofs.Resolves.{same_context}
use Rattle.paths.specs.Walk.{class, taken_on, event, Spot, is_code, holds_none, jumps_at, is_clouded, clouded}
use Rattle.paths.proofs.Machines.{halt, act, Machine, deed}
use Rattle.paths.proofs.Names.{as_is, Kin, kin_trans, kin_stays, moving_same}
use Rattle.paths.proofs.Standing.{stands_stay}
use Rattle.paths.proofs.Changes.{not_before, before_same, other_form, change_same, cloud_same}
use Rattle.paths.proofs.Forms.{event_same, Shorter, shorter_same}
use Rattle.paths.proofs.Links.{aims, Matches, is_cloud, is_act, matches_map}
use Rattle.paths.proofs.Resolves.{gap, past, Lands, named, first, padded, middle, void, unaddressed, computing, Resolved, cloud_deed, none_between, aimed_deed}

module _ {p q : Program} (f : Shrunk p q) where
  abbrev pub short : Stmt
  short = instr f.f f.x.args f.x.carried

  pub alikes : Shorter f.x.form f.f
  alikes = shorter_same f.x.form f.f f.jump_or_call f.as_call

  pub shrunk_i : at q f.i ≡ short
  shrunk_i = rw f.new (get_or-set_same p f.i short gone (instr_inside p f.i _ _ _ f.far_at))

  pub shrunk_else : (n : ℕ) → n ≢ f.i → at q n ≡ at p n
  shrunk_else n ne = rw f.new (get_or-set_other p f.i n short gone ne)

  -- what is the same of both instructions is the same everywhere
  pub shrunk_by : {X : Type 0} (g : Stmt → X) → g short ≡ g (instr f.x.form f.x.args f.x.carried) → (n : ℕ) → g (at q n) ≡ g (at p n)
  shrunk_by g h n = ⊎_elim (λ (e : n ≡ f.i). rw (e, shrunk_i, f.far_at) h) (λ ne. rw (shrunk_else n ne)) (eq_or_not n f.i)

  kin_shrunk : Kin p q
  kin_shrunk =
      record {
        as_long = step_length p q (shrink f);
        enters = λ n k. shrunk_by (enter k) refl n;
        naming = λ n. rw (shrunk_by naming_of refl n) as_is;
      }

  shrunk_contexts : (n : ℕ) → context_at q n ≡ context_at p n
  shrunk_contexts = same_context p q (λ n k. shrunk_by (enter k) refl n)

  module _ {p₀ : Program} {m : Machine} (r : Resolved p₀ p m) where
    kin_q : Kin p₀ q
    kin_q = kin_trans p₀ p q r.kin kin_shrunk

    moving_q : moving_of q ≡ moving_of p
    moving_q = moving_same p q (step_length p q (shrink f)) kin_shrunk.enters (shrunk_by naming_of refl)

    lands_q : (k : ℕ) (x : Operand) (g : Spot) → Lands p₀ p k x g → Lands p₀ q k x g
    lands_q k x g (named e) = named (stands_stay p q shrunk_contexts (λ d l s. shrunk_else d (λ y. clash (let h : at p d ≡ at p f.i = ap (at p) y in cc f.far_at)) ∙ s) (kin_stays p q kin_shrunk) e)
    lands_q k x g first = first
    lands_q k x g (padded {d = d} h) = padded (shrunk_by is_code refl d ∙ h)
    lands_q k x g (middle {d = d} h) = middle (shrunk_by is_code refl d ∙ h)
    lands_q k x g (void {e = y} {d = d} n h w (gap {l = l} e a b)) =
        void {e = y} (ap (λ (ks : List Key). holds_label ks k y) moving_q ∙ n) h w (gap (shrunk_else d (λ y. clash (let h : at p d ≡ at p f.i = ap (at p) y in cc f.far_at)) ∙ e) (omega (arith, step_lowers p q (shrink f) d)) b)
    lands_q k x g (void {e = y} {d = d} n h w (past e a)) = void {e = y} {d = d} (ap (λ (ks : List Key). holds_label ks k y) moving_q ∙ n) h w (past (omega (arith, step_length p q (shrink f))) (omega (arith, step_lowers p q (shrink f) d)))
    lands_q k x g (unaddressed {e = y} n h w) = unaddressed {e = y} (ap (λ (ks : List Key). holds_label ks k y) moving_q ∙ n) h w
    lands_q k x g (computing {e = y} n h) = computing {e = y} (ap (λ (ks : List Key). holds_label ks k y) moving_q ∙ n) h

    not1_same : (n : ℕ) → is_form not1 (at q n) ≡ is_form not1 (at p n)
    not1_same = shrunk_by (is_form not1) (alikes.no_not1_too ∙ sym alikes.no_not1)

    not1_stays : (j : ℕ) → is_form not1 (at p j) ≡ true → at q j ≡ at p j
    not1_stays j h = shrunk_else j (λ e. true_false (sym h ∙ ap (λ (n : ℕ). is_form not1 (at p n)) e ∙ ap (is_form not1) f.far_at ∙ alikes.no_not1))

    before_q : (n : ℕ) → not_before q n ≡ not_before p n
    before_q = before_same p q (shrunk_by skipped refl) not1_same

    not1_holds : (j : ℕ) → is_form not1 (at p j) ≡ true → every (holds_none (moving_of q) (context_at q j)) (args_of (at q j)) ≡ every (holds_none (moving_of p) (context_at p j)) (args_of (at p j))
    not1_holds j h = rw (shrunk_contexts j, not1_stays j h, moving_q)

    cloud_q : (n : ℕ) → jumps_at q n ≡ jumps_at p n → is_clouded q n ≡ is_clouded p n
    cloud_q n e = cloud_same p q before_q not1_holds n e

    change_q : (n : ℕ) → n ≢ f.i → is_clouded p n ≡ false → is_change_jump (names_of q) q n ≡ is_change_jump (names_of p) p n
    change_q n ne d =
        change_same p q before_q
        (λ j h t. (
          ap args_of (not1_stays j h),
          holds_none (moving_of p₀) (context_at p j),
          r.clear j h t,
          λ x z. rw (shrunk_contexts j) (none_between p₀ p q r.good₀ (acceptable_parts p r.good).1 (acceptable_parts q f.good).1 r.kin kin_q (context_at p j) x z),
        )) n (ap (is_form jmpf) (shrunk_else n ne)) d

    far_plain : is_change_jump (names_of p) p f.i ≡ false
    far_plain =
        ⊎_elim (λ e. other_form (names_of p) p f.i f.x.form f.x.args f.x.carried f.far_at (not-true _ e)) (λ e. not-true _ e)
        (or_true (not (eqb f.x.form jmpf)) (not (is_change_jump (names_of p) p f.i)) f.no_change_jump)

    shrunk_all : (n : ℕ) → Matches (Lands p₀ q (context_at q n)) n (is_clouded q n) (is_change_jump (names_of q) q n) (at q n) (deed m n)
    shrunk_all n = ⊎_elim at_i elsewhere (eq_or_not n f.i)
      where
        -- a call is never clouded, and a jump stays a jump
        same_jump : jumps_at q f.i ≡ jumps_at p f.i
        same_jump = rw (shrunk_i, f.far_at) alikes.same_jump

        clouded_i : is_clouded p f.i ≡ true → Matches (Lands p₀ q (context_at q f.i)) f.i (is_clouded q f.i) (is_change_jump (names_of q) q f.i) (at q f.i) (deed m f.i)
        clouded_i d =
            let halts_there : deed m f.i ≡ halt (clouded f.i) = cloud_deed f.x.form f.x.args f.x.carried (r.all f.i) f.far_at d in
            rw (shrunk_i, halts_there, cloud_q f.i same_jump, d) (is_cloud alikes.big refl)

        clear_i : is_clouded p f.i ≡ false → Matches (Lands p₀ q (context_at q f.i)) f.i (is_clouded q f.i) (is_change_jump (names_of q) q f.i) (at q f.i) (deed m f.i)
        clear_i d =
            let far = aimed_deed f.x.form f.x.args f.x.carried (r.all f.i) f.far_at d far_plain alikes.aiming in
            aimed_i d far.to far.is far.leads
          where
            aimed_i : is_clouded p f.i ≡ false → (to : Spot) → deed m f.i ≡ act (class f.x.form) (event f.i f.x.form f.x.args) (taken_on f.x.form) to → Lands p₀ p (context_at p f.i) (last_of f.x.args) to
                → Matches (Lands p₀ q (context_at q f.i)) f.i (is_clouded q f.i) (is_change_jump (names_of q) q f.i) (at q f.i) (deed m f.i)
            aimed_i d to is leads =
                let same_deed : deed m f.i ≡ act (class f.f) (event f.i f.f f.x.args) (taken_on f.f) to =
                is ∙ rw (alikes.classes, alikes.taken, event_same f.i f.x.form f.f f.x.args alikes.far alikes.near alikes.forms) in
                rw (same_deed, cloud_q f.i same_jump, d, other_form (names_of q) q f.i f.f f.x.args f.x.carried shrunk_i (alikes.no_jmpf f.smaller), shrunk_i, shrunk_contexts f.i)
                (is_act alikes.big refl refl (ap aims alikes.classes ∙ alikes.aiming) (lands_q (context_at p f.i) _ to leads))

        at_i : n ≡ f.i → Matches (Lands p₀ q (context_at q n)) n (is_clouded q n) (is_change_jump (names_of q) q n) (at q n) (deed m n)
        at_i e = rw e (⊎_elim clouded_i clear_i (decide (is_clouded p f.i)))

        elsewhere : n ≢ f.i → Matches (Lands p₀ q (context_at q n)) n (is_clouded q n) (is_change_jump (names_of q) q n) (at q n) (deed m n)
        elsewhere ne =
            rw (shrunk_else n ne, shrunk_contexts n)
            (matches_map (λ g xs k t e l. lands_q (context_at p n) (last_of xs) t l) (cloud_q n (ap (λ (s : Stmt). on_instr false (λ x. is_unconditional x.form) s) (shrunk_else n ne))) (change_q n ne) (r.all n))

    cleared : (j : ℕ) → is_form not1 (at q j) ≡ true → every (holds_none (moving_of q) (context_at q j)) (args_of (at q j)) ≡ true → every (holds_none (moving_of p₀) (context_at q j)) (args_of (at q j)) ≡ true
    cleared j h t =
        let was : is_form not1 (at p j) ≡ true = sym (not1_same j) ∙ h in
        rw (shrunk_contexts j, not1_stays j was) (r.clear j was (sym (not1_holds j was) ∙ t))

    pub shrunk_resolved : Resolved p₀ q m
    shrunk_resolved =
        record {
          good₀ = r.good₀;
          good = f.good;
          as_long = r.as_long ∙ sym (step_length p q (shrink f));
          kin = kin_q;
          contexts = λ n. shrunk_contexts n ∙ r.contexts n;
          orgs = λ g l e. let was = r.orgs g l e in shrunk_else g (λ y. clash (let h : at p g ≡ at p f.i = ap (at p) y in cc f.far_at)) ∙ was;
          all = shrunk_all;
          clear = λ j h t. cleared j h t;
        }
