-- `output::text::put_own` meets its contract: two bytes, and a part of the frame behind them.
use mathlib.Core.Path.{◌≡◌, ap, ◌∙◌}
use mathlib.Core.List.{List, ◌∷◌}
use Prim.Native.Nat.{ℕ, ◌+◌, ◌-◌, ◌≤◌}
use native.Mathlib.Omega.{arith}
use lib.ListN.{length, take, drop, length-drop}
use lib.Seq.{length-take-le}
use Rattle.rules.specs.Output.{hex_byte}
use Rattle.digits.specs.Digits.{hex_of, laid}
use Rattle.output.specs.Lines.{own_end, own_bytes}
use Rattle.output.proofs.Rooms.{put_head}
use Rattle.output.proofs.Sizes.{length_own}
use Rattle.output.proofs.Targets.{end_within}
use Rattle.output.proofs.text.put_own.Goals as goal

-- where the own part ends
ends_at : (c : goal.After-put_bytes-arg-1) → c.own_end-e.result ≡ own_end c.args.frame.now
ends_at c = c.own_end-e.ensures

-- where the own part ends
ends_at_2 : (c : goal.After-put_bytes-arg-2-1) → c.own_end-e.result ≡ own_end c.args.frame.now
ends_at_2 c = c.own_end-e.ensures

-- where the own part ends
ends_at_3 : (c : goal.After-slice_known-4-1) → c.own_end-e.result ≡ own_end c.args.frame.now
ends_at_3 c = c.own_end-e.ensures

bounds : (s : goal.After-put_byte-arg-1) → (2 ≤ own_end s.args.frame.now) × (own_end s.args.frame.now ≤ length s.args.frame.now)
bounds s = end_within s.args.place.0 s.args.frame.now s.requires.0

bounds_2 : (s : goal.After-put_byte-arg-2-1) → (2 ≤ own_end s.args.frame.now) × (own_end s.args.frame.now ≤ length s.args.frame.now)
bounds_2 s = end_within s.args.place.0 s.args.frame.now s.requires.0

bounds_3 : (s : goal.After-put_bytes-arg-1) → (2 ≤ own_end s.args.frame.now) × (own_end s.args.frame.now ≤ length s.args.frame.now)
bounds_3 s = end_within s.args.place.0 s.args.frame.now s.requires.0

bounds_4 : (s : goal.After-put_bytes-arg-2-1) → (2 ≤ own_end s.args.frame.now) × (own_end s.args.frame.now ≤ length s.args.frame.now)
bounds_4 s = end_within s.args.place.0 s.args.frame.now s.requires.0

bounds_5 : (s : goal.After-slice_known-4-1) → (2 ≤ own_end s.args.frame.now) × (own_end s.args.frame.now ≤ length s.args.frame.now)
bounds_5 s = end_within s.args.place.0 s.args.frame.now s.requires.0

-- the part behind the two bytes
abbrev part : (c : goal.After-put_bytes-arg-2-1) → List ℕ
part c = take (c.own_end-e.result - 2) (drop 2 c.args.frame.now)

-- the part behind the two bytes
abbrev part_2 : (c : goal.After-slice_known-4-1) → List ℕ
part_2 c = take (c.own_end-e.result - 2) (drop 2 c.args.frame.now)

part_length : (c : goal.After-put_bytes-arg-2-1) → length (part c) ≡ own_end c.args.frame.now - 2
part_length c =
    length-take-le (c.own_end-e.result - 2) (drop 2 c.args.frame.now)
    (omega (arith, ends_at_2 c, bounds_4 c, length-drop 2 c.args.frame.now)) ∙ ap (λ n. n - 2) (ends_at_2 c)

part_length_2 : (c : goal.After-slice_known-4-1) → length (part_2 c) ≡ own_end c.args.frame.now - 2
part_length_2 c =
    length-take-le (c.own_end-e.result - 2) (drop 2 c.args.frame.now)
    (omega (arith, ends_at_3 c, bounds_5 c, length-drop 2 c.args.frame.now)) ∙ ap (λ n. n - 2) (ends_at_3 c)

pub put_byte-requires : goal.put_byte-requires
put_byte-requires c = omega (arith, bounds c, c.requires.1)

pub put_byte-requires-2 : goal.put_byte-requires-2
put_byte-requires-2 c = omega (arith, bounds_2 c, c.requires.1, c.put_byte.auto.out)

pub slice_bounds-put_bytes-count : goal.slice_bounds-put_bytes-count
slice_bounds-put_bytes-count c = omega (arith, ends_at c, bounds_3 c)

pub slice_bounds-put_bytes-start : goal.slice_bounds-put_bytes-start
slice_bounds-put_bytes-start c = omega (arith, ends_at c, bounds_3 c)

pub slice_bounds-put_bytes-end : goal.slice_bounds-put_bytes-end
slice_bounds-put_bytes-end c = omega (arith, ends_at c, bounds_3 c)

pub put_bytes-requires : goal.put_bytes-requires
put_bytes-requires c =
    omega (arith, part_length c, bounds_4 c, c.requires.1, c.put_byte-2.auto.out, c.put_byte.auto.out)

pub returns : goal.returns
unfolding own_bytes
returns c =
    let first = c.put_byte.ensures in
    let second = c.put_byte-2.ensures in
    let a = c.args in
    let own = length_own a.form a.place.0 a.frame.now c.requires.0 in
    record {
      is =
          c.put_bytes.ensures ∙ ap (λ l. laid l (a.at + 4) (hex_of (part_2 c))) (second ∙ ap (λ l. laid l (a.at + 2) (hex_byte a.form))
          first)
          ∙ put_head a.out.now a.at 1 a.form (part_2 c) (omega (arith, part_length_2 c, bounds_5 c, c.requires.1))
          ∙ ap (λ n. laid a.out.now a.at (hex_of (1 ∷ a.form ∷ take (n - 2) (drop 2 a.frame.now)))) (ends_at_3 c);
      ends = omega (arith, ends_at_3 c, own);
    }
