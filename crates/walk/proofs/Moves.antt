-- C-15: a label's name moves with the code, so that a target that names a label stays as written.
use mathlib.Core.Path.{◌≡◌, refl, sym, ◌∙◌, ap}
use mathlib.Core.List.{List, [], ◌∷◌}
use mathlib.Core.Bool.{Bool, true, false, cond}
use Prim.Native.Nat.{ℕ, zero, suc}
use lib.Dec.{leb}
use Rattle.laws.proofs.Tests.{clash, or_first, or_second}
use Rattle.rules.specs.Expressions.{name, mentions}
use Rattle.rules.specs.Programs.{Stmt, label, Naming, unnamed, labels, binds, naming_of, Program, at}
use Rattle.rules.specs.Layout.{after}
use Rattle.rules.specs.Names.{enter, context_from, context_at, Placed, placed_from, placed, Key, key_of, same_key}
use Rattle.rules.specs.Judging.{is_seen}
use Rattle.rules.specs.Rewriting.{holds_label, moves_in, moving_after, moving_of}
use Rattle.walk.proofs.Lookups.{key_same}

-- what moves goes on moving behind further statements
moves_more : (above : List Key) (k : ℕ) (x : Naming) (key : Key) → is_seen above key ≡ true → is_seen (moves_in above k x) key ≡ true
unfolding is_seen
moves_more above k unnamed key e = e
moves_more above k (labels n) key e = or_second (same_key (key_of k n) key) (is_seen above key) e
moves_more above k (binds n d) key e = on (holds_label above k d)
  where
    on : (b : Bool) → is_seen (cond b (key_of k n ∷ above) above) key ≡ true
    on true = or_second (same_key (key_of k n) key) (is_seen above key) e
    on false = e

moves_after : (above : List Key) (xs : List Placed) (key : Key) → is_seen above key ≡ true → is_seen (moving_after above xs) key ≡ true
unfolding moving_after
moves_after above [] key e = e
moves_after above (x ∷ xs) key e = moves_after (moves_in above x.context (naming_of x.stmt)) xs key (moves_more above x.context (naming_of x.stmt) key e)

-- so a label's does, from its statement on
label_moves_from : (above : List Key) (i k q : ℕ) (p : Program) (d n : ℕ) → at p d ≡ label n → is_seen (moving_after above (placed_from i k q p)) (key_of (context_from k p d) n) ≡ true
unfolding moving_after placed_from context_from is_seen
label_moves_from above i k q [] d n h = clash (cc)
label_moves_from above i k q (s ∷ p) zero n h = moves_after (moves_in above (enter k s) (naming_of s)) (placed_from (suc i) (enter k s) (after q s) p) (key_of (enter k s) n) here
  where
    here : is_seen (moves_in above (enter k s) (naming_of s)) (key_of (enter k s) n) ≡ true
    here =
        ap (λ (x : Stmt). is_seen (moves_in above (enter k s) (naming_of x)) (key_of (enter k s) n)) h
        ∙ or_first (same_key (key_of (enter k s) n) (key_of (enter k s) n)) (is_seen above (key_of (enter k s) n)) (key_same (key_of (enter k s) n) (key_of (enter k s) n) refl)
label_moves_from above i k q (s ∷ p) (suc d) n h = label_moves_from (moves_in above (enter k s) (naming_of s)) (suc i) (enter k s) (after q s) p d n h

-- label-moves: a name that is a label's holds a label
pub label_moves : (p : Program) (d n k : ℕ) → at p d ≡ label n → key_of (context_at p d) n ≡ key_of k n → holds_label (moving_of p) k (name n) ≡ true
unfolding holds_label moving_of placed context_at mentions
label_moves p d n k h z = ap (λ (b : Bool). leb 1 (cond b 1 0)) (ap (is_seen (moving_of p)) (sym z) ∙ label_moves_from [] 0 0 0 p d n h)
