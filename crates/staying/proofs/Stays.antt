-- An attempt has a reason exactly where it leaves nothing: for a candidate, for a fold at a place, and for the shorter forms at a place.
use mathlib.Core.Path.{◌≡◌, refl, sym, ◌∙◌, ap}
use mathlib.Core.List.{List, [], ◌∷◌}
use mathlib.Core.Option.{Option, none, some}
use mathlib.Core.Bool.{Bool, true, false, ◌&&◌, cond}
use Prim.Native.Nat.{ℕ}
use lib.Dec.{ltb, eqb}
use lib.ListN.{set}
use borrow.Author.Tests.{eqb-true, eq-eqb}
use Rattle.laws.specs.Options.{given, bind, first_of, or_else}
use Rattle.laws.proofs.Options.{or_else_none, or_else_second}
use Rattle.laws.proofs.Tests.{some_none, false_true, first_false}
use Rattle.rules.specs.declared.Settings.{Settings}
use Rattle.rules.specs.Answers.{Judged, ok, no, is_ok}
use Rattle.rules.specs.Forms.{jmp, jmpf, br, call, callf}
use Rattle.rules.specs.Programs.{Placeℕ, instr, Program, at, Instruction, as_instr, is_form}
use Rattle.rules.specs.Layout.{size_in}
use Rattle.rules.specs.Names.{Entry}
use Rattle.rules.specs.Judging.{judge, assembles}
use Rattle.rules.specs.Rewriting.{is_change_jump, changes_at, nearest, every_inner_label, no_inner_label_between, no_interior_label_at, acceptable, candidate, pattern_at, shorter, shrink_at}
use Rattle.promises.proofs.Looks.{as_instr_some}
use Rattle.staying.specs.declared.Reason.{Reason}
use Rattle.staying.specs.declared.Reason.TheVariants.{Counts, Change, Inside, Between, Beyond, Refused}
use Rattle.patterns.specs.Shapes.{Shape, shape_at}
use Rattle.staying.specs.Reasons.{by_verdict, reason_of, fold_reason, shrink_reason, fold, shrink, is_asked, longer, pattern, reason_at, attempted_at}
use Rattle.staying.specs.Promise.{is_reason}
use Rattle.patterns.proofs.Begins.{ask, begins}

-- ---- what a reason leaves
abbrev counted : Reason → Program → Option Program
counted Counts q = some q
counted Change q = none
counted Inside q = none
counted Between q = none
counted Beyond q = none
counted (Refused r) q = none

left_none : (r : Reason) (q : Program) → is_reason r ≡ true → counted r q ≡ none
left_none Counts q e = false_true e
left_none Change q e = refl
left_none Inside q e = refl
left_none Between q e = refl
left_none Beyond q e = refl
left_none (Refused r) q e = refl

has_reason : (r : Reason) (q : Program) → counted r q ≡ none → is_reason r ≡ true
has_reason Counts q e = some_none q e
has_reason Change q e = refl
has_reason Inside q e = refl
has_reason Between q e = refl
has_reason Beyond q e = refl
has_reason (Refused r) q e = refl

candidate_is : (q : Program) → candidate q ≡ counted (reason_of q) q
unfolding candidate acceptable assembles reason_of given is_ok
candidate_is q = on (every_inner_label (λ owner o. ltb o (size_in q owner)) q) (judge q)
  where
    on : (fit : Bool) (j : Judged (List ℕ)) → given (fit && is_ok j) (some q) ≡ counted (by_verdict fit j) q
    on true (ok x) = refl
    on true (no r) = refl
    on false (ok x) = refl
    on false (no r) = refl

ask_is : (p : Program) (i : Placeℕ) (s : Shape) → ask p i s ≡ counted (fold_reason p i s) s.folded
unfolding fold_reason given
ask_is p i s = on (no_inner_label_between p i s.last) (no_interior_label_at p i)
  where
    on : (a b : Bool) → given (a && b) (candidate s.folded) ≡ counted (cond a (cond b (reason_of s.folded) Inside) Between) s.folded
    on true true = candidate_is s.folded
    on true false = refl
    on false b = refl

-- form f in the place of x
abbrev formed : Program → (i : Placeℕ) (f : ℕ) → Instruction → Program
formed p i f x = set p i (instr f x.args x.carried)

abbrev try : Program → (i : Placeℕ) → Instruction → (f : ℕ) → Option Program
try p i x f = given (no_interior_label_at p i) (candidate (formed p i f x))

try_is : (names : List Entry) (p : Program) (i : Placeℕ) (x : Instruction) (f : ℕ) → is_change_jump names p i ≡ false → try p i x f ≡ counted (shrink_reason names p i f x) (formed p i f x)
unfolding shrink_reason given
try_is names p i x f e = rw e (on (no_interior_label_at p i))
  where
    on : (b : Bool) → given b (candidate (formed p i f x)) ≡ counted (cond b (reason_of (formed p i f x)) Inside) (formed p i f x)
    on true = candidate_is (formed p i f x)
    on false = refl

-- ---- an attempt, if it is tried
abbrev pub stays : Option Reason → Bool
stays none = true
stays (some r) = is_reason r

given_stays : (b : Bool) (o : Option Reason) → (b ≡ true → stays o ≡ true) → stays (given b o) ≡ true
unfolding given
given_stays true o h = h refl
given_stays false o h = refl

stays_given : (b : Bool) (o : Option Reason) → b ≡ true → stays (given b o) ≡ true → stays o ≡ true
unfolding given
stays_given true o e h = h
stays_given false o e h = false_true e

-- ---- folds
module _ (asked : Settings) (names : List Entry) (p : Program) (k : ℕ) (i : Placeℕ) where
  pub fold_stays : (asked.folds ≡ true → pattern_at p (pattern k) i ≡ none) → stays (attempted_at asked names p (fold k) i) ≡ true
  unfolding attempted_at bind
  fold_stays h = given_stays asked.folds (reason_at names p (fold k) i) (λ e. on (shape_at p (pattern k) i) (sym (begins p (pattern k) i) ∙ h e))
    where
      on : (o : Option Shape) → bind o (ask p i) ≡ none → stays (bind o (λ s. some (fold_reason p i s))) ≡ true
      on none e = refl
      on (some s) e = has_reason (fold_reason p i s) s.folded (sym (ask_is p i s) ∙ e)

  pub stays_fold : asked.folds ≡ true → stays (attempted_at asked names p (fold k) i) ≡ true → pattern_at p (pattern k) i ≡ none
  unfolding attempted_at bind
  stays_fold e h = begins p (pattern k) i ∙ on (shape_at p (pattern k) i) (stays_given asked.folds (reason_at names p (fold k) i) e h)
    where
      on : (o : Option Shape) → stays (bind o (λ s. some (fold_reason p i s))) ≡ true → bind o (ask p i) ≡ none
      on none e = refl
      on (some s) e = ask_is p i s ∙ left_none (fold_reason p i s) s.folded e

-- ---- shrinks
module _ (asked : Settings) (names : List Entry) (p : Program) (i : Placeℕ) where
  -- the forms that are tried for a jump and for a call
  jump_forms : (f : ℕ) → f ≡ jmpf → is_change_jump names p i ≡ false → shorter asked names p i f ≡ br ∷ jmp ∷ []
  unfolding shorter
  jump_forms f e h = rw (e, h)

  call_forms : (f : ℕ) → f ≡ callf → asked.callf ≡ true → shorter asked names p i f ≡ call ∷ []
  unfolding shorter
  call_forms f e h = rw (e, h)

  -- a form g for an instruction x that is as long as it asks
  abbrev Kept : (g : ℕ) → Instruction → Type 0
  Kept g x = stays (given (eqb x.form (longer g)) (some (shrink_reason names p i g x))) ≡ true

  changed : (g : ℕ) (x : Instruction) → is_change_jump names p i ≡ true → is_reason (shrink_reason names p i g x) ≡ true
  unfolding shrink_reason
  changed g x e = rw e

  tried : (g : ℕ) (x : Instruction) → is_change_jump names p i ≡ false → try p i x g ≡ none → is_reason (shrink_reason names p i g x) ≡ true
  tried g x e h = has_reason (shrink_reason names p i g x) (formed p i g x) (sym (try_is names p i x g e) ∙ h)

  two_none : (x : Instruction) → first_of (try p i x) (br ∷ jmp ∷ []) ≡ none → (try p i x br ≡ none) × (try p i x jmp ≡ none)
  unfolding first_of
  two_none x e =
      let a = or_else_none (try p i x br) (or_else (try p i x jmp) none) e in
      (a.0, (or_else_none (try p i x jmp) none a.1).0)

  one_none : (x : Instruction) → first_of (try p i x) (call ∷ []) ≡ none → try p i x call ≡ none
  unfolding first_of
  one_none x e = (or_else_none (try p i x call) none e).0

  jump_kept : (g : ℕ) (x : Instruction) → (x.form ≡ jmpf → is_change_jump names p i ≡ false → try p i x g ≡ none) → longer g ≡ jmpf → Kept g x
  jump_kept g x h l = given_stays (eqb x.form (longer g)) (some (shrink_reason names p i g x)) (λ e. on (is_change_jump names p i) refl (eqb-true x.form (longer g) e ∙ l))
    where
      on : (b : Bool) → is_change_jump names p i ≡ b → x.form ≡ jmpf → is_reason (shrink_reason names p i g x) ≡ true
      on true c e = changed g x c
      on false c e = tried g x c (h e c)

  -- a Callf is no change jump
  no_change : (x : Instruction) → as_instr (at p i) ≡ some x → x.form ≡ callf → is_change_jump names p i ≡ false
  unfolding is_change_jump
  no_change x e f = first_false (is_form jmpf (at p i)) (changes_at names p i (nearest p i)) (ap (is_form jmpf) (as_instr_some (at p i) x e) ∙ ap (λ (n : ℕ). eqb n jmpf) f)

  call_kept : (x : Instruction) → as_instr (at p i) ≡ some x → (x.form ≡ callf → try p i x call ≡ none) → Kept call x
  call_kept x a h =
      given_stays (eqb x.form (longer call)) (some (shrink_reason names p i call x))
      (λ e. let f : x.form ≡ callf = eqb-true x.form callf e in tried call x (no_change x a f) (h f))

  -- where no shorter form is left, each has a reason
  module _ (none_left : shrink_at asked names p i ≡ none) where
    left : (x : Instruction) → as_instr (at p i) ≡ some x → first_of (try p i x) (shorter asked names p i x.form) ≡ none
    unfolding shrink_at bind
    left x e = sym (ap (λ (o : Option Instruction). bind o (λ y. first_of (try p i y) (shorter asked names p i y.form))) e) ∙ none_left

    each_kept : (g : ℕ) → ((x : Instruction) → as_instr (at p i) ≡ some x → Kept g x) → stays (reason_at names p (shrink g) i) ≡ true
    unfolding bind
    each_kept g h = on (as_instr (at p i)) refl
      where
        on : (o : Option Instruction) → as_instr (at p i) ≡ o → stays (bind o (λ x. given (eqb x.form (longer g)) (some (shrink_reason names p i g x)))) ≡ true
        on none e = refl
        on (some x) e = h x e

    both : (x : Instruction) → as_instr (at p i) ≡ some x → x.form ≡ jmpf → is_change_jump names p i ≡ false → (try p i x br ≡ none) × (try p i x jmp ≡ none)
    both x a f c = two_none x (sym (ap (first_of (try p i x)) (jump_forms x.form f c)) ∙ left x a)

    pub br_stays : stays (attempted_at asked names p (shrink br) i) ≡ true
    unfolding attempted_at
    br_stays = given_stays true (reason_at names p (shrink br) i) (λ e. each_kept br (λ x a. jump_kept br x (λ f c. (both x a f c).0) refl))

    pub jmp_stays : stays (attempted_at asked names p (shrink jmp) i) ≡ true
    unfolding attempted_at
    jmp_stays = given_stays true (reason_at names p (shrink jmp) i) (λ e. each_kept jmp (λ x a. jump_kept jmp x (λ f c. (both x a f c).1) refl))

    pub call_stays : stays (attempted_at asked names p (shrink call) i) ≡ true
    unfolding attempted_at
    call_stays =
        given_stays asked.callf (reason_at names p (shrink call) i)
        (λ e. each_kept call (λ x a. call_kept x a (λ f. one_none x (sym (ap (first_of (try p i x)) (call_forms x.form f e)) ∙ left x a))))

  -- where each shorter form has a reason, none is left
  kept_at : (g : ℕ) → is_asked asked (shrink g) ≡ true → stays (attempted_at asked names p (shrink g) i) ≡ true
      → (x : Instruction) → as_instr (at p i) ≡ some x → x.form ≡ longer g → is_reason (shrink_reason names p i g x) ≡ true
  unfolding attempted_at bind
  kept_at g q h x a f =
      let r = some (shrink_reason names p i g x) in
      let s : stays (reason_at names p (shrink g) i) ≡ true = stays_given (is_asked asked (shrink g)) (reason_at names p (shrink g) i) q h in
      let t : stays (given (eqb x.form (longer g)) r) ≡ true =
      sym (ap (λ (o : Option Instruction). stays (bind o (λ y. given (eqb y.form (longer g)) (some (shrink_reason names p i g y))))) a) ∙ s in
      stays_given (eqb x.form (longer g)) r (eq-eqb x.form (longer g) f) t

  untried : (g : ℕ) (x : Instruction) → is_change_jump names p i ≡ false → is_reason (shrink_reason names p i g x) ≡ true → try p i x g ≡ none
  untried g x c h = try_is names p i x g c ∙ left_none (shrink_reason names p i g x) (formed p i g x) h

  module _ (b : stays (attempted_at asked names p (shrink br) i) ≡ true) (j : stays (attempted_at asked names p (shrink jmp) i) ≡ true) (l : stays (attempted_at asked names p (shrink call) i) ≡ true) where
    forms_none : (x : Instruction) → as_instr (at p i) ≡ some x → first_of (try p i x) (shorter asked names p i x.form) ≡ none
    unfolding shorter first_of
    forms_none x a = on (eqb x.form jmpf) refl (eqb x.form callf) refl (is_change_jump names p i) refl asked.callf refl
      where
        on : (u : Bool) → eqb x.form jmpf ≡ u → (v : Bool) → eqb x.form callf ≡ v → (c : Bool) → is_change_jump names p i ≡ c → (w : Bool) → asked.callf ≡ w
            → first_of (try p i x) (cond u (cond c [] (br ∷ jmp ∷ [])) (cond v (cond w (call ∷ []) []) [])) ≡ none
        on true f v q true d w g = refl
        on true f v q false d w g =
            let e : x.form ≡ jmpf = eqb-true x.form jmpf f in
            or_else_second (try p i x br) (or_else (try p i x jmp) none) (untried br x d (kept_at br refl b x a e))
            ∙ or_else_second (try p i x jmp) none (untried jmp x d (kept_at jmp refl j x a e))
        on false f true q c d true g =
            let e : x.form ≡ callf = eqb-true x.form callf q in
            or_else_second (try p i x call) none (untried call x (no_change x a e) (kept_at call g l x a e))
        on false f true q c d false g = refl
        on false f false q c d w g = refl

    pub stay_shrinks : shrink_at asked names p i ≡ none
    unfolding shrink_at bind
    stay_shrinks = on (as_instr (at p i)) refl
      where
        on : (o : Option Instruction) → as_instr (at p i) ≡ o → bind o (λ x. first_of (try p i x) (shorter asked names p i x.form)) ≡ none
        on none e = refl
        on (some x) e = forms_none x e
