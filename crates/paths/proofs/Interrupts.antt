-- Interrupts: what a handler meets it meets in both programs, so that the program between them sees the same.
use mathlib.Core.Path.{◌≡◌, refl, sym, ◌∙◌, ap, subst}
use mathlib.Core.List.{List, [], ◌∷◌, ◌++◌}
use Prim.Native.Nat.{ℕ, ◌≤◌}
use Rattle.laws.proofs.Tests.{clash}
use Rattle.rules.specs.Programs.{Placeℕ, Addressℕ, org, Program, at}
use Rattle.paths.specs.Walk.{Event, Oracle, Ending, going, unreturned, start_at, meets, Walk, walk}
use Rattle.paths.specs.SamePath.{itself, Sooner, Later, Alike, Starts, at_org, SamePath}
use Rattle.paths.specs.Interrupts.{Walks, Interrupt, Plan, behind, handler, handled, woven, seen_with, between, interrupted, Return, walks_of, SameInterrupted}
use Rattle.paths.proofs.Runs.{run_ended}

-- a walk that has ended has ended, however many steps are left
abbrev pub Ends : Walks → Type 0
Ends walks = (a : Addressℕ) (o : Oracle) (n m : ℕ) → n ≤ m → ((i : Placeℕ) → (walks a o n).ending ≡ going i → ⊥) → walks a o m ≡ walks a o n

module _ (p : Program) (long short : Walks) (starts : (a b : Addressℕ) → Type 0) (ends : Ends short)
    (from_org : (g : Placeℕ) (l : Addressℕ) → at p g ≡ org l → starts l l) (alike : (a b : Addressℕ) → starts a b → Alike (long a) (short b)) where
  returned : (e : Ending) → e ≡ unreturned → (i : Placeℕ) → e ≡ going i → ⊥
  returned e h i k = clash (cc)

  -- one handler
  handler_same : (o : Oracle) (i : Interrupt) (history : List Event) → ((g : Placeℕ) × (at p g ≡ org i.location)) → (handler long o i history).ending ≡ unreturned
      → handler short o i history ≡ handler long o i history
  handler_same o i history g e =
      let k = (alike i.location i.location (from_org g.0 i.location g.1)).forth (behind o history) i.within in
      let same : (short i.location (behind o history) k.steps).ending ≡ (handler long o i history).ending = k.agrees.stops (returned (handler long o i history).ending e) in
      let stays : handler short o i history ≡ short i.location (behind o history) k.steps =
      ends i.location (behind o history) k.steps i.within k.no_larger (returned (short i.location (behind o history) k.steps).ending (same ∙ e)) in
      stays ∙ (λ j. record { met = k.agrees.met j; ending = same j })

  handled_same : (o : Oracle) (is : List Interrupt) (history : List Event) → Return p long o is history → handled short o is history ≡ handled long o is history
  handled_same o [] history r = refl
  handled_same o (i ∷ is) history r =
      ap (λ (w : Walk). handled short o is (w.met ++ history)) (handler_same o i history r.0 r.1) ∙ handled_same o is ((handler long o i history).met ++ history) r.2

  return_same : (o : Oracle) (is : List Interrupt) (history : List Event) → Return p long o is history → Return p short o is history
  return_same o [] history r = tt
  return_same o (i ∷ is) history r =
      let same = handler_same o i history r.0 r.1 in
      (r.0, ap (λ (w : Walk). w.ending) same ∙ r.1, subst (λ (w : Walk). Return p short o is (w.met ++ history)) (sym same) (return_same o is ((handler long o i history).met ++ history) r.2))

  module _ (o : Oracle) (plan : Plan) (all : (history : List Event) → Return p long o (plan history) history) where
    woven_same : (met : List Event) → woven short o plan met ≡ woven long o plan met
    woven_same [] = handled_same o (plan []) [] (all [])
    woven_same (v ∷ met) =
        ap (λ (h : List Event). handled short o (plan (v ∷ h)) (v ∷ h)) (woven_same met) ∙ handled_same o (plan (v ∷ woven long o plan met)) (v ∷ woven long o plan met) (all (v ∷ woven long o plan met))

    seen_same : (met : List Event) → seen_with short o plan met ≡ seen_with long o plan met
    seen_same [] = refl
    seen_same (v ∷ met) = ap (λ (h : List Event). v ∷ h) (woven_same met)

    between_same : between short o plan ≡ between long o plan
    between_same = λ i. record { answers = λ met. o.answers (seen_same met i); returns = λ met. o.returns (seen_same met i) }

    -- the short one, told by what the handlers of the long one meet
    told_same : (b : Addressℕ) (n : ℕ) (w : Walk) → short b (between long o plan) n ≡ w → interrupted short plan b o n ≡ record { met = woven long o plan w.met; ending = w.ending }
    told_same b n w e =
        let same : short b (between short o plan) n ≡ w = ap (λ (x : Oracle). short b x n) between_same ∙ e in
        ap (λ (x : Walk). record { met = woven short o plan x.met; ending = x.ending }) same ∙ ap (λ (l : List Event). record { met = l; ending = w.ending }) (woven_same w.met)

    sooner : (a b : Addressℕ) → starts a b → (n : ℕ) → Sooner (interrupted short plan b o) n (interrupted long plan a o n)
    sooner a b s n =
        let k = (alike a b s).forth (between long o plan) n in
        let t = told_same b k.steps (short b (between long o plan) k.steps) refl in
        record {
          steps = k.steps;
          no_larger = k.no_larger;
          agrees =
              record {
                met = ap (λ (x : Walk). x.met) t ∙ ap (woven long o plan) k.agrees.met;
                stops = λ h. ap (λ (x : Walk). x.ending) t ∙ k.agrees.stops h;
              };
        }

    later : (a b : Addressℕ) → starts a b → (n : ℕ) → Later (interrupted long plan a o) n (interrupted short plan b o n)
    later a b s n =
        let k = (alike a b s).back (between long o plan) n in
        record { steps = k.steps; no_fewer = k.no_fewer; same = told_same b n (long a (between long o plan) k.steps) k.same }

  -- interrupted-alike: any walks that are alike are alike with interrupts
  pub interrupted_alike : SameInterrupted p long short starts
  interrupted_alike = record { return = return_same; forth = λ o plan all a b s n. sooner o plan all a b s n; back = λ o plan all a b s n. later o plan all a b s n }

pub walk_ends : (tell : Placeℕ → Placeℕ) (p : Program) → Ends (walks_of tell p)
unfolding walk
walk_ends tell p a o n m l h = run_ended (meets o tell p) n m (start_at a) l h

-- same-interrupted: so those of two programs
pub same_interrupted : (p q : Program) (stem : Placeℕ → Placeℕ) → SamePath p q stem → SameInterrupted p (walks_of itself p) (walks_of stem q) (Starts p q stem)
same_interrupted p q stem s = interrupted_alike p (walks_of itself p) (walks_of stem q) (Starts p q stem) (walk_ends stem q) (λ g l e. at_org g e) s.alike
