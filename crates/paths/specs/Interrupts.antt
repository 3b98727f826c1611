-- Interrupts: a handler that returns changes nothing of the rest.
use Rattle.std.specs.Prelude.{◌≡◌, List, [], ◌∷◌, ◌++◌, ℕ}
use Rattle.rules.specs.Programs.{Placeℕ, Addressℕ, org, Program, at}
use Rattle.paths.specs.Walk.{Event, Oracle, unreturned, Walk, walk}
use Rattle.paths.specs.SamePath.{Sooner, Later}

-- the walks of a program: from an address, under an oracle, in so many steps at most
abbrev pub Walks : Type 0
Walks = Addressℕ → Oracle → ℕ → Walk

-- an interrupt: its handler's code stands at this location and returns in so many steps
pub record Interrupt : Type 0 where
  pub location : Addressℕ
  pub within : ℕ

-- which come behind a history of what the program and the handlers have met so far, one after the other. Where in front of the next event they come makes no
-- difference: a jump meets nothing, and a handler leaves the walk where it was
abbrev pub Plan : Type 0
Plan = List Event → List Interrupt

-- the oracle as it answers a walk that begins behind a history
abbrev pub behind : Oracle → (history : List Event) → Oracle
behind o history = record { answers = λ met. o.answers (met ++ history); returns = λ met. o.returns (met ++ history) }

-- a handler is a walk of its own, to the return that answers none of its calls
abbrev pub handler : Walks → Oracle → Interrupt → (history : List Event) → Walk
handler walks o i history = walks i.location (behind o history) i.within

-- the history behind these handlers
abbrev pub handled : Walks → Oracle → List Interrupt → (history : List Event) → List Event
handled walks o [] history = history
handled walks o (i ∷ is) history = handled walks o is ((handler walks o i history).met ++ history)

-- the events of a walk with those of the handlers that come between them
abbrev pub woven : Walks → Oracle → Plan → (met : List Event) → List Event
woven walks o plan [] = handled walks o (plan []) []
woven walks o plan (v ∷ met) = let history : List Event = v ∷ woven walks o plan met in handled walks o (plan history) history

-- the oracle as it answers the program between its interrupts: it sees them all
abbrev pub seen_with : Walks → Oracle → Plan → (met : List Event) → List Event
seen_with walks o plan [] = []
seen_with walks o plan (v ∷ met) = v ∷ woven walks o plan met

abbrev pub between : Walks → Oracle → Plan → Oracle
between walks o plan = record { answers = λ met. o.answers (seen_with walks o plan met); returns = λ met. o.returns (seen_with walks o plan met) }

-- a walk from address a with interrupts; steps are counted of the program
abbrev pub interrupted : Walks → Plan → (a : Addressℕ) → Oracle → ℕ → Walk
interrupted walks plan a o n = let w : Walk = walks a (between walks o plan) n in record { met = woven walks o plan w.met; ending = w.ending }

-- each of these handlers stands at an org of the program, and returns
abbrev pub Return : Program → Walks → Oracle → List Interrupt → (history : List Event) → Type 0
Return p walks o [] history = Unit {0}
Return p walks o (i ∷ is) history =
    ((g : Placeℕ) × (at p g ≡ org i.location)) × ((handler walks o i history).ending ≡ unreturned) × Return p walks o is ((handler walks o i history).met ++ history)

-- the walks of a program, told by `tell`
abbrev pub walks_of : (tell : Placeℕ → Placeℕ) → Program → Walks
walks_of tell p a o n = walk o tell n p a

-- of a program p and its output q: whatever interrupts come behind whatever is met, if their handlers return in p they do in q, and both walk alike
pub record SameInterrupted (p : Program) (long short : Walks) (starts : (a b : Addressℕ) → Type 0) : Type 0 where
  pub return : (o : Oracle) (is : List Interrupt) (history : List Event) → Return p long o is history → Return p short o is history
  pub forth : (o : Oracle) (plan : Plan) → ((history : List Event) → Return p long o (plan history) history) → (a b : Addressℕ) → starts a b → (n : ℕ)
      → Sooner (interrupted short plan b o) n (interrupted long plan a o n)
  pub back : (o : Oracle) (plan : Plan) → ((history : List Event) → Return p long o (plan history) history) → (a b : Addressℕ) → starts a b → (n : ℕ)
      → Later (interrupted long plan a o) n (interrupted short plan b o n)
