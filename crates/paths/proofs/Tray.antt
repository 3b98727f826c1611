-- examples/tray as it stands, long and short, walked: every branch goes both ways, every call is returned from, and what is met is told in full, each
-- instruction with its place, its form and its operands. Form numbers: Inc 0C, Ld 1F and 20, St 21, Mov 23, Bz 2E, Bp 30, Dbnz 33, Be 35, Callf 3C, Ret 3E, Set1 41.
use mathlib.Core.List.{List, [], ◌∷◌, ◌++◌, map}
use mathlib.Core.Bool.{Bool, true, false, ◌&&◌, cond}
use Prim.Native.Nat.{ℕ, ◌+◌}
use Prim.Native.String.{String}
use lib.Dec.{T, eqb}
use lib.ListN.{drop, get_or}
use Rattle.laws.specs.Lists.{same, is_one_of}
use Rattle.rules.specs.declared.Settings.{Settings}
use Rattle.rules.specs.Settings.{by_default, as_document01}
use Rattle.rules.specs.Forms.{branches}
use Rattle.rules.specs.Programs.{Program}
use Rattle.rules.specs.Listing.{read_listing}
use Rattle.rules.proofs.Computed.{lines, freely}
use Rattle.promises.specs.Demand2.{output_program, own_from}
use Rattle.walk.specs.SameWalk.{stem_of}
use Rattle.paths.specs.Walk.{class, plain_form, taken_on, Event, event, Oracle, unreturned, Walk, code_from, code_at, names_before, label_names, is_clouded, meets, run, walk}
use Rattle.paths.specs.SamePath.{itself}
use Rattle.paths.proofs.Examples.{matching, number_in, code, holds_of}

-- ---- a machine that keeps its stack and whose tests come out as they were recorded, one by one
abbrev asked : List Event → ℕ
asked [] = 0
asked (v ∷ vs) = cond (is_one_of branches v.form) 1 0 + asked vs

abbrev pub recorded : List Bool → Oracle
recorded ts = record { answers = λ met. get_or ts (asked (drop 1 met)) true; returns = λ met. matching 0 0 (drop 1 met) }

-- ---- events as rows: place, form, operands
abbrev pub Rows : Type 0
Rows = List (List ℕ)

abbrev rows : List Event → Rows → Rows
rows [] later = later
rows (v ∷ vs) later = rows vs ((v.place ∷ v.form ∷ map (λ x. number_in x) v.args) ∷ later)

abbrev same_rows : Rows → Rows → Bool
same_rows [] [] = true
same_rows [] (y ∷ ys) = false
same_rows (x ∷ xs) [] = false
same_rows (x ∷ xs) (y ∷ ys) = same x y && same_rows xs ys

-- these events in their order, and then a return that answers no call
abbrev pub tells : Rows → Walk → Bool
tells met w = same_rows (rows w.met []) met && eqb (code w.ending) (code unreturned)

-- ---- the 49 lines, and what their parts meet
unfoldable pub tray : String
tray = "047265736574 012B0000000008 050008 04777269746520612070617274206F66206120737472697065 020001 012300000000010000000010 013C010002 012E018001 012B010009 028001 012300000000080000000011 028002 012000 013C010003 013500000000FF018003 012B018004 028003 012B010009 028004 010C0000000000 01330000000011018002 012300000000000000000010 013C010002 012E018005 012B010009 028005 013E 046D61726B3A20746865207374726970652773206D61726B20746F207468652074726179 020002 011F0000000010 012B0000000039 0473656E642074686520616363756D756C61746F72 020003 013000000000120000000000018001 012B010003 028001 0121000000014D 011F0000000012 013E 046661696C65643A207374617973206D61726B6564206F70656E 020009 014100000000120000000007 013E 08000080 02000A 0704010001010002010003010009 08000080 02000B 060800000000010000000002000000000400000000080000000010000000002000000000400000000080"

-- bit 0 of 18 is asked: whether the tray is ready
abbrev ready : List ℕ
ready = 33 ∷ 0x30 ∷ 18 ∷ 0 ∷ []

-- it is: `st 333`, `ld 18`, and back
abbrev send : Rows
send = ready ∷ (36 ∷ 0x21 ∷ 333 ∷ []) ∷ (37 ∷ 0x1F ∷ 18 ∷ []) ∷ (38 ∷ 0x3E ∷ []) ∷ []

-- "mark: the stripe's mark to the tray"
abbrev mark : Rows
mark = (29 ∷ 0x1F ∷ 16 ∷ []) ∷ send

abbrev opening : Rows
opening = (5 ∷ 0x23 ∷ 1 ∷ 16 ∷ []) ∷ (6 ∷ 0x3C ∷ []) ∷ (mark ++ ((7 ∷ 0x2E ∷ []) ∷ []))

-- eight parts are to be sent
abbrev eight : Rows
eight = (10 ∷ 0x23 ∷ 8 ∷ 17 ∷ []) ∷ []

abbrev next : Rows
next = (12 ∷ 0x20 ∷ 0 ∷ []) ∷ (13 ∷ 0x3C ∷ []) ∷ []

-- the answer is asked; it is good, and the parts are counted down
abbrev answer : Rows
answer = (14 ∷ 0x35 ∷ 255 ∷ []) ∷ []

abbrev counted : Rows
counted = (19 ∷ 0x0C ∷ 0 ∷ []) ∷ (20 ∷ 0x33 ∷ 17 ∷ []) ∷ []

abbrev closing : Rows
closing = (21 ∷ 0x23 ∷ 0 ∷ 16 ∷ []) ∷ (22 ∷ 0x3C ∷ []) ∷ (mark ++ ((23 ∷ 0x2E ∷ []) ∷ []))

-- "failed: stays marked open"
abbrev failed : Rows
failed = (41 ∷ 0x41 ∷ 18 ∷ 7 ∷ []) ∷ (42 ∷ 0x3E ∷ []) ∷ []

-- the tests as they come out, and what is met
pub record Course : Type 0 where
  pub tests : List Bool
  pub met : Rows

-- two parts, waiting once for the tray; the mark fails, with a wait; the first part fails; the closing mark fails
unfoldable pub courses : List Course
courses =
    record { tests = true ∷ true ∷ false ∷ true ∷ false ∷ true ∷ true ∷ false ∷ false ∷ true ∷ true ∷ []; met = opening ++ (eight ++ (next ++ (ready ∷ (send ++ (answer ++ (counted ++ (next ++ (send ++ (answer ++ (counted ++ (closing ++ ((26 ∷ 0x3E ∷ []) ∷ [])))))))))))) } ∷
    record { tests = false ∷ true ∷ false ∷ []; met = (5 ∷ 0x23 ∷ 1 ∷ 16 ∷ []) ∷ (6 ∷ 0x3C ∷ []) ∷ (29 ∷ 0x1F ∷ 16 ∷ []) ∷ ready ∷ (send ++ ((7 ∷ 0x2E ∷ []) ∷ failed)) } ∷
    record { tests = true ∷ true ∷ true ∷ true ∷ []; met = opening ++ (eight ++ (next ++ (send ++ (answer ++ failed)))) } ∷
    record { tests = true ∷ true ∷ true ∷ false ∷ false ∷ true ∷ false ∷ []; met = opening ++ (eight ++ (next ++ (send ++ (answer ++ (counted ++ (closing ++ failed)))))) } ∷
    []

-- all of them, of a walk for each oracle
abbrev pub course_holds : List Course → (Oracle → Walk) → Bool
course_holds [] f = true
course_holds (c ∷ cs) f = tells c.met (f (recorded c.tests)) && course_holds cs f

-- in the long routine, and in the short one with comments and without, told by stems
tray_holds : Bool
unfolding freely same class plain_form taken_on event code_from code_at meets run walk output_program own_from names_before label_names is_clouded tray courses
tray_holds = holds_of (λ p. course_holds courses (λ o. walk o itself 60 p 0) && (shows as_document01 p && shows by_default p)) (read_listing (lines tray))
  where
    shows : Settings → Program → Bool
    shows asked p = course_holds courses (λ o. walk o (stem_of asked p) 60 (own_from 0 (output_program asked p)) 0)

tray_walks : T tray_holds
unfolding tray_holds
tray_walks = tt
