-- Document 01, "Refusal numbers": the cause of each number, one line a row of the table. "No number is given without its cause."
use Rattle.rules.specs.declared.Unvalued.TheVariants.{Unknown, Nothing}
use Rattle.rules.specs.declared.Unvalued.{Unvalued}
use Rattle.std.specs.Prelude.{◌≡◌, ◌⊎◌, List, [], ◌∷◌, Bool, true, false, ℕ, zero, suc, ◌+◌, ◌*◌, ◌≤◌, ◌<◌, leb, length, take, drop, ℤ, pos, ◌-ℤ◌, Result, Err, Ok}
use Rattle.std.proofs.Math.Option.{Option, none, some}
use Rattle.rules.specs.declared.Kind.{Kind}
use Rattle.rules.specs.declared.Kind.TheVariants.{Reg, I8, D9, Bit, Rel8, A12, A16, Rel16}
use Rattle.rules.specs.declared.Op1.{Op1}
use Rattle.rules.specs.declared.Op2.{Op2}
use Rattle.rules.specs.declared.Refusal.{Refusal}
use Rattle.rules.specs.declared.Refusal.TheVariants.{Broken, Limit, Again, NoName, Back, Beyond, NoValue, Range, Outside, Far, Page, Room}
use Rattle.rules.specs.declared.Settings.{Settings}
use Rattle.rules.specs.Answers.{at_place, Judged, ok, no, ◌>>=◌, require, judged_or, is_ok}
use Rattle.rules.specs.Values.{apply1, apply2, below, signed_byte, nat}
use Rattle.rules.specs.Encoding.{page, field}
use Rattle.rules.specs.Expressions.{Expr, name, two, one, eval_tree, read_expr, got, long}
use Rattle.rules.specs.Forms.{size_at, operands_at}
use Rattle.rules.specs.Programs.{Placeℕ, Addressℕ, Operand, value, Stmt, gone, instr, label, variable, comment, org, bytes, words, pad, Program, at, as_name, exactly, space_at}
use Rattle.rules.specs.Layout.{after, position}
use Rattle.rules.specs.Listing.{Line, lines_of, unhex, within_limits, well_formed, read_listing, read_frame_in, ListingForm, old_form, new_form, form_in, statement_lines, beside_of}
use Rattle.rules.specs.Names.{key_of, Entry, lookup, placed, context_at}
use Rattle.rules.specs.Judging.{value_at, worth, worth_of, no_name_twice, positions_fit, define_all, judge}
use Rattle.rules.specs.Refusals.{fault_of}
use Rattle.rules.specs.Run.{output_of, run, assembled}
use Rattle.promises.specs.Faults.{line_in, characters_in, line_at, name_at, settle_at, define_at, encode_at, FirstFault}
use Rattle.promises.specs.Demand1.{has_number}
use Rattle.promises.specs.Entry.{twelve}

-- ---- parts of a statement

-- element j of a list, where it has one
abbrev pub nth : {A : Type 0} → List A → (j : ℕ) → Option A
nth [] j = none
nth (x ∷ xs) zero = some x
nth (x ∷ xs) (suc j) = nth xs j

-- argument j of the instruction at place i: its kind and what is written for it
pub record Argument (p : Program) (i : Placeℕ) (j : ℕ) (d : Kind) (x : Operand) : Type 0 where
  pub form : ℕ
  pub args : List Operand
  pub carried : Placeℕ
  pub stands : at p i ≡ instr form args carried
  pub kind : nth (operands_at form) j ≡ some d
  pub written : nth args j ≡ some x

-- item j of the data at place i, which has to be below a bound: "byte data 0..255", "word 0..65,535"
pub record Item (p : Program) (i : Placeℕ) (j bound : ℕ) (e : Expr) : Type 0 where
  pub items : List Expr
  pub stands : ((at p i ≡ bytes items) × (bound ≡ 256)) ⊎ ((at p i ≡ words items) × (bound ≡ 65536))
  pub written : nth items j ≡ some e

-- either of them judged alone: its value, then its range. Where a statement has no part j, nothing is judged
abbrev pub argument_of : (names : List Entry) → Program → (i : Placeℕ) (j : ℕ) (n : Addressℕ) → Option Kind → Option Operand → Judged ℕ
argument_of names p i j n none x = ok 0
argument_of names p i j n (some d) none = ok 0
argument_of names p i j n (some d) (some x) = value_at i (worth_of names p (context_at p i) x) >>= field i j n d

abbrev pub item_of : (names : List Entry) → Program → (i : Placeℕ) (j bound : ℕ) → Option Expr → Judged ℕ
item_of names p i j bound none = ok 0
item_of names p i j bound (some e) =
    value_at i (worth names (context_at p i) e) >>= (λ v. require (below bound v) (Range (at_place i) j v) (ok (nat v)))

abbrev pub part_of : (names : List Entry) → Program → (i : Placeℕ) (j : ℕ) → Stmt → Judged ℕ
part_of names p i j gone = ok 0
part_of names p i j (instr f xs c) = argument_of names p i j (position p i + size_at f) (nth (operands_at f) j) (nth xs j)
part_of names p i j (label n) = ok 0
part_of names p i j (variable n e) = ok 0
part_of names p i j (comment x) = ok 0
part_of names p i j (org l) = ok 0
part_of names p i j (bytes es) = item_of names p i j 256 (nth es j)
part_of names p i j (words es) = item_of names p i j 65536 (nth es j)
part_of names p i j (pad add m) = ok 0

abbrev pub part_at : (names : List Entry) → Program → (i : Placeℕ) (j : ℕ) → Judged ℕ
part_at names p i j = part_of names p i j (at p i)

-- ---- "Order: 1 and 2 line by line, then 3, then 5 and 6, then variables (4, 7), then encoding by statement and argument, then 12": how
-- far reading and judging have come. What stands before in this order has passed

-- each number below i passes a check
abbrev pub Earlier : {A : Type 0} → (ℕ → Judged A) → (i : ℕ) → Type 0
Earlier {A} check i = (j : ℕ) → j < i → (a : A) × (check j ≡ ok a)

-- to line i
pub record ComesToLine (text : List ℕ) (i : Placeℕ) : Type 0 where
  pub within : i < length (statement_lines (lines_of text))
  pub lines : Earlier (line_at (form_in (lines_of text)) (statement_lines (lines_of text))) i

-- to the name of statement i
pub record ComesToName (text : List ℕ) (p : Program) (i : Placeℕ) : Type 0 where
  pub reads : read_listing text ≡ ok p
  pub within : i < length p
  pub names : Earlier (name_at p) i

-- to its position
pub record ComesToPosition (text : List ℕ) (p : Program) (i : Placeℕ) : Type 0 where
  pub reads : read_listing text ≡ ok p
  pub once : no_name_twice [] (placed p) ≡ ok tt
  pub within : i < length p
  pub positions : Earlier (settle_at p) i

-- to its value, if it is a variable
pub record ComesToVariable (text : List ℕ) (p : Program) (i : Placeℕ) : Type 0 where
  pub reads : read_listing text ≡ ok p
  pub once : no_name_twice [] (placed p) ≡ ok tt
  pub laid : positions_fit (placed p) ≡ ok tt
  pub within : i < length p
  pub variables : Earlier (define_at p) i

-- to its argument or item j, the names of the program being `names`
pub record ComesToPart (text : List ℕ) (p : Program) (names : List Entry) (i : Placeℕ) (j : ℕ) : Type 0 where
  pub reads : read_listing text ≡ ok p
  pub once : no_name_twice [] (placed p) ≡ ok tt
  pub laid : positions_fit (placed p) ≡ ok tt
  pub defined : define_all [] (placed p) ≡ ok names
  pub within : i < length p
  pub statements : Earlier (encode_at names p) i
  pub parts : Earlier (part_at names p i) j

-- ---- the causes

-- the frame of line i
abbrev pub frame_at : List ℕ → (i : Placeℕ) → List ℕ
frame_at text i = unhex (line_in (statement_lines (lines_of text)) i).chars

-- line i keeps the limits, those of the lines before it counted; it is digit pairs and a line feed
abbrev pub is_within : List ℕ → (i : Placeℕ) → Bool
is_within text i =
    let ls : List Line = statement_lines (lines_of text) in
    within_limits (form_in (lines_of text)) i (characters_in (take i ls)) (line_in ls i).chars

abbrev pub is_pairs : List ℕ → (i : Placeℕ) → Bool
is_pairs text i = well_formed (line_in (statement_lines (lines_of text)) i)

-- ---- where the expressions of a frame begin: it is read "from left to right, byte by byte", and those before have been read

abbrev pub is_register : Kind → Bool
is_register Reg = true
is_register I8 = false
is_register D9 = false
is_register Bit = false
is_register Rel8 = false
is_register A12 = false
is_register A16 = false
is_register Rel16 = false

-- an operand's, at byte k of those from the first on; "A register is one byte, 0 to 3"
pub data OperandBegins : List Kind → List ℕ → (k : ℕ) → Type 0 where
  operand_here : (d : Kind) (ds : List Kind) (t : List ℕ) → is_register d ≡ false → OperandBegins (d ∷ ds) t 0
  behind_register : (ds : List Kind) (b : ℕ) (t : List ℕ) (k : ℕ) → b ≤ 3 → OperandBegins ds t k → OperandBegins (Reg ∷ ds) (b ∷ t) (1 + k)
  behind_expr : (d : Kind) (ds : List Kind) (t : List ℕ) (e : Expr) (m k : ℕ) → is_register d ≡ false → read_expr t ≡ got e m
      → OperandBegins ds (drop m t) k → OperandBegins (d ∷ ds) t (m + k)

-- that of one of n items
pub data ItemBegins : (n : ℕ) → List ℕ → (k : ℕ) → Type 0 where
  item_here : (n : ℕ) (t : List ℕ) → ItemBegins (suc n) t 0
  item_later : (n : ℕ) (t : List ℕ) (e : Expr) (m k : ℕ) → read_expr t ≡ got e m → ItemBegins n (drop m t) k → ItemBegins (suc n) t (m + k)

-- in a frame: "01 instruction: form number, then its arguments", "03 variable: a name below 8000, one expression", "06 bytes, 07 words: a
-- count 1 to 16, then as many expressions"
pub data Begins : List ℕ → (k : ℕ) → Type 0 where
  in_instruction : (f : ℕ) (t : List ℕ) (k : ℕ) → f < 70 → OperandBegins (operands_at f) t k → Begins (1 ∷ f ∷ t) (2 + k)
  in_variable : (a b : ℕ) (t : List ℕ) → a * 256 + b < 0x8000 → Begins (3 ∷ a ∷ b ∷ t) 3
  in_bytes : (n : ℕ) (t : List ℕ) (k : ℕ) → 1 ≤ n → n ≤ 16 → ItemBegins n t k → Begins (6 ∷ n ∷ t) (2 + k)
  in_words : (n : ℕ) (t : List ℕ) (k : ℕ) → 1 ≤ n → n ≤ 16 → ItemBegins n t k → Begins (7 ∷ n ∷ t) (2 + k)

-- C-20: a frame without its source line, four bytes behind the kind, which have to be there
abbrev pub without_line : ListingForm → List ℕ → List ℕ
without_line old_form s = s
without_line new_form [] = []
without_line new_form (k ∷ s) = k ∷ drop 4 s

abbrev pub has_line : ListingForm → List ℕ → Bool
has_line old_form s = true
has_line new_form [] = false
has_line new_form (k ∷ s) = leb 4 (length s)

-- "coming to a 33rd byte of an expression"
pub record Reaches33 (w : ListingForm) (frame : List ℕ) : Type 0 where
  pub lined : has_line w frame ≡ true
  pub place : ℕ
  pub begins : Begins (without_line w frame) place
  pub reaches : read_expr (drop place (without_line w frame)) ≡ long

-- 1: "then 1 for bad digits or a missing line feed; then the frame .. any other breach 1": it is no frame, and none of its expressions is
-- too long
pub data BreaksForm (text : List ℕ) (i : Placeℕ) : Type 0 where
  bad_line : is_within text i ≡ true → is_pairs text i ≡ false → BreaksForm text i
  bad_frame : is_within text i ≡ true → is_pairs text i ≡ true → is_ok (read_frame_in (form_in (lines_of text)) i (frame_at text i)) ≡ false
      → (Reaches33 (form_in (lines_of text)) (frame_at text i) → ⊥) → BreaksForm text i

-- 2: "2 if it is statement 1,025, holds over 240 characters, or brings the characters .. over 49,152"; "coming to a 33rd byte .. is 2"
pub data PassesLimit (text : List ℕ) (i : Placeℕ) : Type 0 where
  in_line : is_within text i ≡ false → PassesLimit text i
  in_frame : is_within text i ≡ true → is_pairs text i ≡ true → Reaches33 (form_in (lines_of text)) (frame_at text i) → PassesLimit text i

-- 3: the statements at i and at an earlier place define the same name; "a local once per context"
pub record DefinedAgain (p : Program) (i : Placeℕ) : Type 0 where
  pub earlier : Placeℕ
  pub before : earlier < i
  pub name : ℕ
  pub other : ℕ
  pub defines : as_name (at p i) ≡ some name
  pub defined : as_name (at p earlier) ≡ some other
  pub same : key_of (context_at p earlier) other ≡ key_of (context_at p i) name

-- 4 and 7: judging has come to the expression e of the statement at place i, in which `env` says what a name stands for: a variable sees
-- the names above it, an argument or item all names
abbrev pub amongst : (names : List Entry) → Program → (i : Placeℕ) → ℕ → Result ℤ Unvalued
amongst names p i n = lookup names (key_of (context_at p i) n)

abbrev pub names_above : Program → (i : Placeℕ) → List Entry
names_above p i = judged_or (define_all [] (take i (placed p))) []

pub data ComesToExpr (text : List ℕ) (p : Program) (i : Placeℕ) : (env : ℕ → Result ℤ Unvalued) → Expr → Type 0 where
  of_variable : (n : ℕ) (e : Expr) → ComesToVariable text p i → at p i ≡ variable n e
      → ComesToExpr text p i (amongst (names_above p i) p i) e
  of_argument : (names : List Entry) (j : ℕ) (d : Kind) (e : Expr) → ComesToPart text p names i j → Argument p i j d (value e)
      → ComesToExpr text p i (amongst names p i) e
  of_item : (names : List Entry) (j bound : ℕ) (e : Expr) → ComesToPart text p names i j → Item p i j bound e
      → ComesToExpr text p i (amongst names p i) e

-- "In an expression the left operand is judged before the right, both before their node." 4: a name that is not found is the first to be
-- judged ill
pub data NotFound (env : ℕ → Result ℤ Unvalued) : Expr → Type 0 where
  here : (n : ℕ) → env n ≡ Err Unknown → NotFound env (name n)
  left : (o : Op2) (e d : Expr) → NotFound env e → NotFound env (two o e d)
  right : (o : Op2) (e d : Expr) (a : ℤ) → eval_tree env e ≡ Ok a → NotFound env d → NotFound env (two o e d)
  under : (o : Op1) (e : Expr) → NotFound env e → NotFound env (one o e)

-- 7: a node is, whose operands have values: "range, zero divisor"
pub data NodeWithout (env : ℕ → Result ℤ Unvalued) : Expr → Type 0 where
  node_two : (o : Op2) (e d : Expr) (a b : ℤ) → eval_tree env e ≡ Ok a → eval_tree env d ≡ Ok b → apply2 o a b ≡ Err Nothing
      → NodeWithout env (two o e d)
  node_one : (o : Op1) (e : Expr) (a : ℤ) → eval_tree env e ≡ Ok a → apply1 o a ≡ Err Nothing → NodeWithout env (one o e)
  node_left : (o : Op2) (e d : Expr) → NodeWithout env e → NodeWithout env (two o e d)
  node_right : (o : Op2) (e d : Expr) (a : ℤ) → eval_tree env e ≡ Ok a → NodeWithout env d → NodeWithout env (two o e d)
  node_under : (o : Op1) (e : Expr) → NodeWithout env e → NodeWithout env (one o e)

-- 5: "an org below the position"
pub record OrgBelow (p : Program) (i : Placeℕ) : Type 0 where
  pub location : Addressℕ
  pub stands : at p i ≡ org location
  pub below : location < position p i

-- 6: "Positions reach at most 65,536": a statement of n bytes
pub record WouldPass (p : Program) (i : Placeℕ) : Type 0 where
  pub size : ℕ
  pub asks : space_at (position p i) (at p i) ≡ exactly size
  pub passes : 65536 < position p i + size

-- 8: "Ranges: i8 and byte data 0..255, d9 0..511, bit 0..7, 16-bit and word 0..65,535"; "Jmp, Call: 16-bit range first": the bound of a
-- kind that has one
abbrev pub bound_of : Kind → Option ℕ
bound_of Reg = none
bound_of I8 = some 256
bound_of D9 = some 512
bound_of Bit = some 8
bound_of Rel8 = none
bound_of A12 = some 65536
bound_of A16 = some 65536
bound_of Rel16 = none

-- "Negative values are refused there": v is not one of 0 .. bound - 1
pub data OutOfRange (names : List Entry) (p : Program) (i : Placeℕ) (j : ℕ) (v : ℤ) : Type 0 where
  argument_out : (d : Kind) (x : Operand) (bound : ℕ) → Argument p i j d x → worth_of names p (context_at p i) x ≡ Ok v
      → bound_of d ≡ some bound → below bound v ≡ false
      → OutOfRange names p i j v
  item_out : (bound : ℕ) (e : Expr) → Item p i j bound e → worth names (context_at p i) e ≡ Ok v → below bound v ≡ false
      → OutOfRange names p i j v

-- 9: "rel8 .. address 0..65,535"; "Brf, Callr: address 0..65,535"
abbrev pub is_relative : Kind → Bool
is_relative Reg = false
is_relative I8 = false
is_relative D9 = false
is_relative Bit = false
is_relative Rel8 = true
is_relative A12 = false
is_relative A16 = false
is_relative Rel16 = true

pub record NoAddress (names : List Entry) (p : Program) (i : Placeℕ) (j : ℕ) (v : ℤ) : Type 0 where
  pub kind : Kind
  pub operand : Operand
  pub argument : Argument p i j kind operand
  pub relative : is_relative kind ≡ true
  pub valued : worth_of names p (context_at p i) operand ≡ Ok v
  pub outside : below 65536 v ≡ false

-- "With n the address after the instruction"
abbrev pub after_at : Program → (i : Placeℕ) → Addressℕ
after_at p i = after (position p i) (at p i)

-- 10: "address - n in -128..127", of rel8; the number at fault is the difference
pub record TooFar (names : List Entry) (p : Program) (i : Placeℕ) (j : ℕ) (difference : ℤ) : Type 0 where
  pub operand : Operand
  pub argument : Argument p i j Rel8 operand
  pub address : Addressℕ
  pub valued : worth_of names p (context_at p i) operand ≡ Ok (pos address)
  pub is_address : address < 65536
  pub difference_is : difference ≡ pos address -ℤ pos (after_at p i)
  pub outside : signed_byte difference ≡ false

-- 11: "Jmp, Call: 16-bit range first, then bits 12 to 15 of the address equal those of n"
pub record OtherPage (names : List Entry) (p : Program) (i : Placeℕ) (j : ℕ) (v : ℤ) : Type 0 where
  pub operand : Operand
  pub argument : Argument p i j A12 operand
  pub address : Addressℕ
  pub address_is : v ≡ pos address
  pub valued : worth_of names p (context_at p i) operand ≡ Ok v
  pub is_address : address < 65536
  pub differ : page address ≡ page (after_at p i) → ⊥

-- ---- the table: a line a row. `Short` is what refuses a program that assembles to an image: 12 alone, "After the first assembly only 12
-- can be given"
pub data OwnCause (text : List ℕ) (Short : Program → (image : List ℕ) → Type 0) : Refusal → Type 0 where
  -- 1 "a line or frame breaks the listing form"
  of_1 : (i : Placeℕ) → ComesToLine text i → BreaksForm text i → OwnCause text Short (Broken (at_place i))
  -- 2 "a limit above is passed"
  of_2 : (i : Placeℕ) → ComesToLine text i → PassesLimit text i → OwnCause text Short (Limit (at_place i))
  -- 3 "a name is defined again"
  of_3 : (p : Program) (i : Placeℕ) → ComesToName text p i → DefinedAgain p i → OwnCause text Short (Again (at_place i))
  -- 4 "a name isn't found"
  of_4 : (p : Program) (i : Placeℕ) (env : ℕ → Result ℤ Unvalued) (e : Expr) → ComesToExpr text p i env e → NotFound env e
      → OwnCause text Short (NoName (at_place i))
  -- 5 "org below the position"
  of_5 : (p : Program) (i : Placeℕ) → ComesToPosition text p i → OrgBelow p i → OwnCause text Short (Back (at_place i))
  -- 6 "position would pass 65,536"
  of_6 : (p : Program) (i : Placeℕ) → ComesToPosition text p i → WouldPass p i → OwnCause text Short (Beyond (at_place i))
  -- 7 "a node has no value (range, zero divisor)"
  of_7 : (p : Program) (i : Placeℕ) (env : ℕ → Result ℤ Unvalued) (e : Expr) → ComesToExpr text p i env e → NodeWithout env e
      → OwnCause text Short (NoValue (at_place i))
  -- 8 "operand out of its range"
  of_8 : (p : Program) (names : List Entry) (i : Placeℕ) (j : ℕ) (v : ℤ) → ComesToPart text p names i j → OutOfRange names p i j v
      → OwnCause text Short (Range (at_place i) j v)
  -- 9 "relative target outside 0..65,535"
  of_9 : (p : Program) (names : List Entry) (i : Placeℕ) (j : ℕ) (v : ℤ) → ComesToPart text p names i j → NoAddress names p i j v
      → OwnCause text Short (Outside (at_place i) j v)
  -- 10 "rel8 difference out of range"
  of_10 : (p : Program) (names : List Entry) (i : Placeℕ) (j : ℕ) (v : ℤ) → ComesToPart text p names i j → TooFar names p i j v
      → OwnCause text Short (Far (at_place i) j v)
  -- 11 "top address bits differ"
  of_11 : (p : Program) (names : List Entry) (i : Placeℕ) (j : ℕ) (v : ℤ) → ComesToPart text p names i j → OtherPage names p i j v
      → OwnCause text Short (Page (at_place i) j v)
  -- 12 "lent listing room .. or image room too short"
  of_12 : (p : Program) (image : List ℕ) → read_listing text ≡ ok p → judge p ≡ ok image → Short p image
      → OwnCause text Short (Room (length p))

-- what is too short for a run, and for assembling alone
abbrev pub RunShort : Settings → (text : List ℕ) (listing_room image_room : ℕ) → Program → (image : List ℕ) → Type 0
RunShort asked text listing_room image_room p image =
    (listing_room < length (output_of asked (beside_of text) p).listing) ⊎ (image_room < length (output_of asked (beside_of text) p).image)

abbrev pub ImageShort : (image_room : ℕ) → Program → (image : List ℕ) → Type 0
ImageShort image_room p image = image_room < length image

-- "No number is given without its cause": a refusal has its own, and nothing else has one
pub record ByNumber (text : List ℕ) (Short : Program → (image : List ℕ) → Type 0) (r : Refusal) : Type 0 where
  pub own : OwnCause text Short r
  pub no_other : (s : Refusal) → OwnCause text Short s → s ≡ r

-- "After the first assembly only 12 can be given": of a text that reads and assembles
pub record OnlyRoom (asked : Settings) (text : List ℕ) (p : Program) : Type 0 where
  pub of_run : (listing_room image_room : ℕ) (r : Refusal) → run asked text listing_room image_room ≡ no r
      → (r ≡ Room (length p)) × ((fault_of r).number ≡ 12)
  pub of_assembling : (image_room : ℕ) (r : Refusal) → assembled text image_room ≡ no r → (r ≡ Room (length p)) × ((fault_of r).number ≡ 12)

-- ---- assembling alone: "accepted exactly when", and what a refusal says
pub record Assembles (text : List ℕ) (image_room : ℕ) (image : List ℕ) : Type 0 where
  pub program : Program
  pub keeps_rules : read_listing text ≡ ok program
  pub as_given : judge program ≡ ok image
  pub image_fits : length image ≤ image_room

pub record OnAssemblyRefusal (text : List ℕ) (image_room : ℕ) (r : Refusal) : Type 0 where
  pub numbered : has_number twelve r ≡ true
  pub by_number : ByNumber text (ImageShort image_room) r
  pub first : FirstFault text r
