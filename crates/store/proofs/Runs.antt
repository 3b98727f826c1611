-- Runs computed from the definitions, on both sides of each edge. A room is written as its digits; the rest of its 165 bytes is zeros.
use mathlib.Core.List.{List, [], ◌∷◌, ◌++◌}
use mathlib.Core.Bool.{Bool, true, false, ◌&&◌}
use Prim.Native.Nat.{ℕ, zero, suc}
use Prim.Native.String.{String}
use lib.Dec.{T, eqb}
use lib.ListN.{take, drop, replicate}
use Rattle.store.specs.declared.Setting.{Setting}
use Rattle.std.specs.Prelude.{Err, Ok, Some, None, Result, Option}
use Rattle.laws.specs.Lists.{every, each, same}
use Rattle.laws.specs.Counts.{tab}
use Rattle.rules.specs.declared.Refusal.{Refusal}
use Rattle.rules.specs.declared.Settings.{Settings}
use Rattle.rules.specs.Refusals.{fault_of}
use Rattle.rules.specs.Answers.{Judged, ok, no, ◌>>◌, require}
use Rattle.rules.specs.Listing.{unhex}
use Rattle.rules.proofs.Computed.{chars, all}
use Rattle.store.specs.declared.Edition.{Edition}
use Rattle.store.specs.Switches.{switches_of, settings_of}
use Rattle.store.specs.Store.{none_holds, none_twice, is_good, find, newest, get, get_newest, has_free, put, added, add, dropped, drop_old}
use Rattle.store.specs.Rooms.{store_in, room_with, judged, in_store, get_in, newest_in, place_in, add_in, drop_in, after_add, after_drop, shown_as}

-- ---- tests

abbrev refuses : ℕ → Refusal → Bool
refuses n r = eqb (fault_of r).number n && eqb (fault_of r).place 0

-- a number, or an edition with these switches
abbrev gives : ℕ → Judged ℕ → Bool
gives a (ok x) = eqb x a
gives a (no r) = false

abbrev has : (number switches : ℕ) → Judged Edition → Bool
has n w (ok e) = eqb e.number n && eqb (switches_of e.settings) w
has n w (no r) = false

-- a refusal about no statement
abbrev fault_is : {A : Type 0} → ℕ → Judged A → Bool
fault_is n (ok x) = false
fault_is n (no r) = refuses n r

-- ---- rooms

unfoldable room : String → List ℕ
unfolding unhex
room s = let x : List ℕ = unhex (chars s) in x ++ replicate 160 0

-- a room of n settings of family 7, editions 1 to n, each with all switches on
unfoldable many : ℕ → List ℕ
many zero = []
many (suc n) = many n ++ (0 ∷ 7 ∷ 0 ∷ suc n ∷ 7 ∷ [])

unfoldable holding : ℕ → List ℕ
holding n = many n ++ replicate 165 0

unfoldable front : (n : ℕ) → List ℕ → String → Bool
unfolding unhex same
front n x s = same (take n x) (unhex (chars s))

-- nothing but the first n bytes changed
unfoldable same_from : (n : ℕ) → List ℕ → List ℕ → Bool
unfolding same
same_from n x y = same (drop n x) (drop n y)

-- the settings that a byte of switches stands for
abbrev on : ℕ → Settings
on w = settings_of w

-- all definitions open
unfoldable opened : Bool → Bool
unfolding every each same tab unhex require ◌>>◌ none_holds none_twice is_good find newest get get_newest has_free put added add dropped drop_old store_in room_with judged in_store room many holding front same_from
opened b = b

-- family 0007 in editions 1 and 2, and family 0009
unfoldable two : List ℕ
unfolding opened
two = after_add (after_add (after_add (room "") 7 (on 3)) 9 (on 5)) 7 (on 4)

-- ---- asking and numbering
asking : List Bool
asking =
    -- an empty store knows none
    fault_is 17 (newest_in (room "") 7) ∷
    fault_is 17 (newest_in (room "") 0) ∷
    fault_is 17 (get_in (room "") 0 0) ∷
    fault_is 17 (drop_in (room "") 7) ∷
    -- editions from 1 on, each in the first free place
    gives 1 (add_in (room "") 7) ∷
    front 20 two "0007000103000900010500070002040000000000" ∷
    has 1 3 (get_in two 7 1) ∷
    has 2 4 (get_in two 7 2) ∷
    has 2 4 (newest_in two 7) ∷
    has 1 5 (newest_in two 9) ∷
    fault_is 17 (get_in two 7 3) ∷
    fault_is 17 (get_in two 7 0) ∷
    fault_is 17 (get_in two 8 1) ∷
    gives 3 (add_in two 7) ∷
    gives 2 (add_in two 9) ∷
    gives 1 (add_in two 8) ∷
    -- the newest is not the last: editions in any order, with gaps
    has 3 1 (newest_in (room "0007000301000000000000070001020007000204") 7) ∷
    gives 4 (add_in (room "0007000301000000000000070001020007000204") 7) ∷
    -- a gap is used first
    front 15 (after_add (room "000700030100000000000007000102") 8 (on 6)) "000700030100080001060007000102" ∷
    -- each switch has its bit
    front 5 (after_add (room "") 7 (record { comments = true; callf = false; folds = false })) "0007000101" ∷
    front 5 (after_add (room "") 7 (record { comments = false; callf = true; folds = false })) "0007000102" ∷
    front 5 (after_add (room "") 7 (record { comments = false; callf = false; folds = true })) "0007000104" ∷
    -- families of two bytes: FFFF and 00FF are two
    front 10 (after_add (after_add (room "") 65535 (on 0)) 255 (on 7)) "FFFF00010000FF000107" ∷
    []

asking_holds : T (all asking)
unfolding all asking opened two
asking_holds = tt

-- ---- showing, place by place
abbrev shows : (family edition switches : ℕ) → Result (Option Setting) Refusal → Bool
shows f e w (Ok (Some s)) = eqb s.family f && (eqb s.edition e && eqb s.switches w)
shows f e w (Ok None) = false
shows f e w (Err r) = false

abbrev shows_none : Result (Option Setting) Refusal → Bool
shows_none (Ok (Some s)) = false
shows_none (Ok None) = true
shows_none (Err r) = false

showing : List Bool
showing =
    shows 7 1 3 (shown_as (place_in two 0)) ∷
    shows 9 1 5 (shown_as (place_in two 1)) ∷
    shows 7 2 4 (shown_as (place_in two 2)) ∷
    shows_none (shown_as (place_in two 3)) ∷
    -- the last place, and the one behind it, whatever the room has there
    shows 7 32 7 (shown_as (place_in (holding 32) 31)) ∷
    shows_none (shown_as (place_in (many 32 ++ (0 ∷ 7 ∷ 0 ∷ 33 ∷ 7 ∷ [])) 32)) ∷
    fault_is 12 (place_in (replicate 159 0) 0) ∷
    fault_is 19 (place_in (room "0007000108") 5) ∷
    []

showing_holds : T (all showing)
unfolding all showing opened two
showing_holds = tt

-- ---- dropping
dropping : List Bool
dropping =
    -- the old one's room comes back, the newest stays, and the number goes on
    gives 2 (drop_in two 7) ∷
    front 20 (after_drop two 7) "0000000000000900010500070002040000000000" ∷
    has 2 4 (newest_in (after_drop two 7) 7) ∷
    fault_is 17 (get_in (after_drop two 7) 7 1) ∷
    has 1 5 (get_in (after_drop two 7) 9 1) ∷
    gives 3 (add_in (after_drop two 7) 7) ∷
    front 20 (after_add (after_drop two 7) 7 (on 1)) "0007000301000900010500070002040000000000" ∷
    -- one edition: nothing changes
    gives 1 (drop_in two 9) ∷
    same_from 0 (after_drop two 9) two ∷
    -- a family that is not there
    fault_is 17 (drop_in two 8) ∷
    same_from 0 (after_drop two 8) two ∷
    []

dropping_holds : T (all dropping)
unfolding all dropping opened two
dropping_holds = tt

-- ---- refusals
refusing : List Bool
refusing =
    -- 12: 159 bytes, whatever they are, and 160
    fault_is 12 (newest_in (replicate 159 255) 7) ∷
    fault_is 12 (add_in (replicate 159 0) 7) ∷
    fault_is 12 (get_in [] 7 1) ∷
    gives 1 (add_in (replicate 160 0) 7) ∷
    -- 19: held twice, once, twice in two families
    fault_is 19 (newest_in (room "00070001030007000104") 7) ∷
    has 2 4 (newest_in (room "00070001030007000204") 7) ∷
    has 1 3 (newest_in (room "00070001030008000104") 7) ∷
    -- and in the first place and the last
    fault_is 19 (add_in ((0 ∷ 7 ∷ 0 ∷ 1 ∷ 3 ∷ []) ++ (replicate 150 0 ++ (0 ∷ 7 ∷ 0 ∷ 1 ∷ 3 ∷ []))) 8) ∷
    gives 1 (add_in ((0 ∷ 7 ∷ 0 ∷ 1 ∷ 3 ∷ []) ++ (replicate 150 0 ++ (0 ∷ 7 ∷ 0 ∷ 2 ∷ 3 ∷ []))) 8) ∷
    -- switches of 8 and of 7
    fault_is 19 (newest_in (room "0007000108") 7) ∷
    has 1 7 (newest_in (room "0007000107") 7) ∷
    -- a free place with a family, with switches
    fault_is 19 (get_in (room "0007000000") 7 1) ∷
    fault_is 19 (drop_in (room "0000000001") 7) ∷
    -- family 0 is one like others
    has 1 2 (newest_in (room "0000000102") 0) ∷
    gives 2 (add_in (room "0000000102") 0) ∷
    -- 12 before 19, 19 before 17 and 18
    fault_is 12 (add_in (take 159 (room "0007000108")) 7) ∷
    fault_is 19 (get_in (room "0007000108") 8 1) ∷
    fault_is 19 (add_in (room "0007FFFF08") 7) ∷
    -- bytes behind the 160 are not looked at
    gives 1 (add_in (replicate 160 0 ++ (255 ∷ 255 ∷ 255 ∷ 255 ∷ 255 ∷ [])) 7) ∷
    same_from 160 (after_add (replicate 160 0 ++ (1 ∷ 2 ∷ 3 ∷ [])) 7 (on 7)) (replicate 160 0 ++ (1 ∷ 2 ∷ 3 ∷ [])) ∷
    -- 18: edition 65,535, and the one before it
    fault_is 18 (add_in (room "0007FFFF00") 7) ∷
    same_from 0 (after_add (room "0007FFFF00") 7 (on 7)) (room "0007FFFF00") ∷
    gives 1 (add_in (room "0007FFFF00") 8) ∷
    gives 65535 (add_in (room "0007FFFE00") 7) ∷
    front 10 (after_add (room "0007FFFE00") 7 (on 7)) "0007FFFE000007FFFF07" ∷
    -- also after dropping
    fault_is 18 (add_in (after_drop (room "0007FFFF000007FFFE00") 7) 7) ∷
    []

refusing_holds : T (all refusing)
unfolding all refusing opened
refusing_holds = tt

-- ---- 32 settings
filling : List Bool
filling =
    gives 32 (add_in (holding 31) 7) ∷
    gives 1 (add_in (holding 31) 8) ∷
    same_from 160 (after_add (holding 31) 8 (on 0)) (holding 31) ∷
    has 32 7 (newest_in (holding 32) 7) ∷
    has 1 7 (get_in (holding 32) 7 1) ∷
    fault_is 18 (add_in (holding 32) 7) ∷
    fault_is 18 (add_in (holding 32) 8) ∷
    -- the store takes 31 more once the old ones are dropped, and the number goes on
    gives 32 (drop_in (holding 32) 7) ∷
    gives 33 (add_in (after_drop (holding 32) 7) 7) ∷
    eqb (newest 7 (store_in (after_drop (holding 32) 7))) 32 ∷
    []

filling_holds : T (all filling)
unfolding all filling opened
filling_holds = tt
