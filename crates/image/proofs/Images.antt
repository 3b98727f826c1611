-- The image from a slot on: how long it is, where it stands, and what a room holds once the slot's bytes are written in front of the rest.
use mathlib.Core.Path.{◌≡◌, refl, sym, ap, ◌∙◌}
use mathlib.Core.List.{List, [], ◌∷◌, ◌++◌, append-nil}
use mathlib.Core.Bool.{true}
use Prim.Native.Nat.{ℕ, zero, suc, ◌+◌, ◌-◌, ◌*◌, ◌≤◌, ◌<◌}
use native.Mathlib.Omega.{arith}
use lib.ListN.{length, get_or, replicate, length-append, length-map, length-replicate}
use Rattle.std.specs.Prelude.{Result, Err, Ok}
use Rattle.laws.proofs.Tests.{clash, false_true}
use Rattle.rules.specs.declared.Code.{Code}
use Rattle.rules.specs.declared.Refusal.{Refusal}
use Rattle.rules.specs.Answers.{Judged, ok, no, ◌>>=◌, is_ok, judged_or}
use Rattle.rules.specs.Expressions.{Expr}
use Rattle.rules.specs.Forms.{size_at, operands_at}
use Rattle.rules.specs.Patterns.{rows_of, bytes_at}
use Rattle.rules.specs.Programs.{Stmt, gone, instr, label, variable, comment, org, bytes, words, pad, Program, up_to, byte_count, kind_of}
use Rattle.rules.specs.Layout.{after, position, lay}
use Rattle.rules.specs.Names.{Entry, context_at}
use Rattle.rules.specs.Encoding.{byte, word}
use Rattle.rules.specs.Judging.{fields, items, encode}
use Rattle.rules.proofs.Laws.{then_ok}
use Rattle.encoding.proofs.Codes.{length_rows}
use Rattle.instruction.proofs.Numbers.{size_bound}
use Rattle.encoding.specs.Encode.{bytes_of_code}
use Rattle.slots.specs.Slots.{slot_at}
use Rattle.slots.proofs.Slots.{size_instr}
use Rattle.image.specs.Tables.{Tables, program, Ready}
use Rattle.image.specs.Encoding.{encode_at, encoded_as, code_from, item_of, encode_slots}
use Rattle.image.specs.Image.{image_of, put, size_of}
use Rattle.image.proofs.Placed.{position_start, position_after}
use Rattle.image.proofs.Worths.{count_program, at_program}
use Rattle.image.proofs.Items.{items_cons}
use Rattle.image.proofs.Passes.{ok_same, from_slot, from_start, from_end, step_ok, rest_ok}
use Rattle.image.proofs.Rooms.{put_none, room_of, room_gap, room_put}

-- ---- a statement has as many bytes as counted

pub empty_is : (b : List ℕ) → length b ≡ 0 → b ≡ []
empty_is [] e = refl
empty_is (x ∷ b) e = absurd (omega arith)

length_bytes : (f : ℕ) (vs : List ℕ) → length (bytes_at f vs) ≡ size_at f
unfolding bytes_at
length_bytes f vs = let rows = rows_of f (get_or vs 0 0) (get_or vs 1 0) (get_or vs 2 0) in length-map rows _ ∙ length_rows f (get_or vs 0 0) (get_or vs 1 0) (get_or vs 2 0)

length_items : (names : List Entry) (bound : ℕ) (write : ℕ → List ℕ) (w : ℕ) → ((v : ℕ) → length (write v) ≡ w) → (i k j : ℕ) (es : List Expr) (b : List ℕ)
    → items names bound write i k j es ≡ ok b → length b ≡ w * length es
unfolding items
length_items names bound write w h i k j [] b e = let z : [] ≡ b = ok_same e in ap length (sym z) ∙ (let n : 0 ≡ w * 0 = omega arith in n)
length_items names bound write w h i k j (x ∷ es) b e =
    let rest = items names bound write i k (suc j) es in
    let a = then_ok (item_of names bound i k j x) (λ v. rest >>= (λ bs. ok (write v ++ bs))) b (sym (items_cons names bound i k write j x es) ∙ e) in
    let c = then_ok rest (λ bs. ok (write a.0 ++ bs)) b a.2 in
    let z : write a.0 ++ c.0 ≡ b = ok_same c.2 in
    ap length (sym z) ∙ length-append (write a.0) c.0 ∙ count (length_items names bound write w h i k (suc j) es c.0 c.1) (h a.0)
  where
    count : {m n : ℕ} → m ≡ w * length es → n ≡ w → n + m ≡ w * suc (length es)
    count p q = rw (p, q) (omega arith)

length_encode : (names : List Entry) (p : Program) (i k q : ℕ) (s : Stmt) (b : List ℕ) → encode names p i k q s ≡ ok b → length b ≡ byte_count q s
unfolding encode
length_encode names p i k q gone b e = ap length (sym (ok_same e))
length_encode names p i k q (instr f xs c) b e =
    let a = then_ok (fields names p i k (q + size_at f) 0 (operands_at f) xs) (λ vs. ok (bytes_at f vs)) b e in
    ap length (sym (ok_same a.2)) ∙ length_bytes f a.0
length_encode names p i k q (label n) b e = ap length (sym (ok_same e))
length_encode names p i k q (variable n x) b e = ap length (sym (ok_same e))
length_encode names p i k q (comment x) b e = ap length (sym (ok_same e))
length_encode names p i k q (org l) b e = ap length (sym (ok_same e))
length_encode names p i k q (bytes es) b e = length_items names 256 byte 1 (λ v. refl) i k 0 es b e ∙ (let n : 1 * length es ≡ length es = omega arith in n)
length_encode names p i k q (words es) b e = length_items names 65536 word 2 (λ v. refl) i k 0 es b e
length_encode names p i k q (pad add m) b e = ap length (sym (ok_same e)) ∙ length-replicate (up_to q m + add) 0

-- ---- where its bytes stand

after_bytes : (q : ℕ) (s : Stmt) → 0 < byte_count q s → after q s ≡ q + byte_count q s
after_bytes q gone l = absurd (omega arith)
after_bytes q (instr f xs c) l = refl
after_bytes q (label n) l = absurd (omega arith)
after_bytes q (variable n x) l = absurd (omega arith)
after_bytes q (comment x) l = absurd (omega arith)
after_bytes q (org m) l = absurd (omega arith)
after_bytes q (bytes es) l = refl
after_bytes q (words es) l = refl
after_bytes q (pad add m) l = refl

lay_bytes : (q : ℕ) (s : Stmt) (b rest : List ℕ) → 0 < byte_count q s → lay q s b rest ≡ b ++ rest
lay_bytes q gone b rest l = absurd (omega arith)
lay_bytes q (instr f xs c) b rest l = refl
lay_bytes q (label n) b rest l = absurd (omega arith)
lay_bytes q (variable n x) b rest l = absurd (omega arith)
lay_bytes q (comment x) b rest l = absurd (omega arith)
lay_bytes q (org m) b rest l = absurd (omega arith)
lay_bytes q (bytes es) b rest l = refl
lay_bytes q (words es) b rest l = refl
lay_bytes q (pad add m) b rest l = refl

lay_empty : (q : ℕ) (s : Stmt) → lay q s [] [] ≡ []
lay_empty q gone = refl
lay_empty q (instr f xs c) = refl
lay_empty q (label n) = refl
lay_empty q (variable n x) = refl
lay_empty q (comment x) = refl
lay_empty q (org m) = refl
lay_empty q (bytes es) = refl
lay_empty q (words es) = refl
lay_empty q (pad add m) = refl

-- what follows stands after it
lay_length : (q : ℕ) (s : Stmt) (b rest : List ℕ) → length b ≡ byte_count q s → q ≤ after q s → 0 < length rest → q + length (lay q s b rest) ≡ after q s + length rest
lay_length q gone b rest e r l = refl
lay_length q (instr f xs c) b rest e r l = omega (arith, length-append b rest)
lay_length q (label n) b rest e r l = refl
lay_length q (variable n x) b rest e r l = refl
lay_length q (comment x) b rest e r l = refl
lay_length q (org m) b [] e r l = absurd (omega arith)
lay_length q (org m) b (x ∷ rest) e r l = omega (arith, length-append (replicate (m - q) 0) (x ∷ rest), length-replicate {A = ℕ} (m - q) 0)
lay_length q (bytes es) b rest e r l = omega (arith, length-append b rest)
lay_length q (words es) b rest e r l = omega (arith, length-append b rest)
lay_length q (pad add m) b rest e r l = omega (arith, length-append b rest)

-- ---- a slot's bytes in front of the rest

zeros : (g : ℕ) → replicate {A = ℕ} g 0 ≡ replicate (length (replicate {A = ℕ} g 0)) 0
zeros g = ap (λ m. replicate m 0) (sym (length-replicate {A = ℕ} g 0))

module _ (n q : ℕ) (s : Stmt) (rest behind : List ℕ) where
  no_bytes : (0 < length (lay q s [] rest) → n ≡ q + length (lay q s [] rest)) → room_of n rest behind ≡ room_of n (lay q s [] rest) behind
  no_bytes = on s rest
    where
      on : (x : Stmt) (r : List ℕ) → (0 < length (lay q x [] r) → n ≡ q + length (lay q x [] r)) → room_of n r behind ≡ room_of n (lay q x [] r) behind
      on gone r h = refl
      on (instr f xs c) r h = refl
      on (label m) r h = refl
      on (variable m e) r h = refl
      on (comment x) r h = refl
      on (org m) [] h = refl
      on (org m) (y ∷ r) h =
          room_gap n q (y ∷ r) behind (replicate (m - q) 0) (h (omega (arith, length-append (replicate (m - q) 0) (y ∷ r)))) (zeros (m - q))
      on (bytes es) r h = refl
      on (words es) r h = refl
      on (pad add m) r h = refl

  pub room_step : (b : List ℕ) → length b ≡ byte_count q s → (0 < length (lay q s b rest) → n ≡ q + length (lay q s b rest))
      → put (room_of n rest behind) q b ≡ room_of n (lay q s b rest) behind
  room_step [] e h = put_none (room_of n rest behind) q ∙ no_bytes h
  room_step (x ∷ b) e h =
      let some : 0 < byte_count q s = omega arith in
      let is = lay_bytes q s (x ∷ b) rest some in
      let long : 0 < length (lay q s (x ∷ b) rest) = rw is (omega arith) in
      room_put n q rest behind (x ∷ b) (h long ∙ ap (λ l. q + length l) is) ∙ ap (λ l. room_of n l behind) (sym is)

-- ---- the image of the slots

module _ (d : Tables) where
  -- how many bytes the slot has by the definition's position; that is the table's
  abbrev pub size_here : (i : ℕ) → ℕ
  size_here i = byte_count (position (program d) i) (slot_at d.slots i)

  pub size_here_lem : Ready d → (i : ℕ) → i < d.slots.count → size_of d i ≡ size_here i
  size_here_lem h i l = ap (λ q. byte_count q (slot_at d.slots i)) (h.position i (omega arith))

  pub bytes_count : (i : ℕ) (b : List ℕ) → encode_at d i ≡ ok b → length b ≡ size_here i
  unfolding encode_at
  bytes_count i b e = length_encode d.entries (program d) i (context_at (program d) i) (position (program d) i) (slot_at d.slots i) b e

  pub position_next : (i : ℕ) → i < d.slots.count → position (program d) (suc i) ≡ after (position (program d) i) (slot_at d.slots i)
  position_next i l = position_after (program d) i (omega (arith, count_program d.slots)) ∙ ap (after (position (program d) i)) (at_program d.slots i l)

  module _ (h : Ready d) (image : List ℕ) (e : encode_slots d ≡ ok image) where
    -- what is left of the image stands at the slot's position, if anything is left
    pub stands : (i : ℕ) → i ≤ d.slots.count → (rest : List ℕ) → from_slot d i ≡ ok rest → 0 < length rest → length image ≡ position (program d) i + length rest
    stands zero l rest f some =
        let z : image ≡ rest = ok_same (sym e ∙ from_start d ∙ f) in
        omega (arith, ap length z, position_start (program d))
    stands (suc i) l rest f some =
        let before = rest_ok d i (omega arith) image e in
        let s = step_ok d i (omega arith) before.0 before.1 in
        let next : s.next ≡ rest = ok_same (sym s.follows ∙ f) in
        let q = position (program d) i in
        let after_is = position_next i (omega arith) in
        let rises : q ≤ after q (slot_at d.slots i) = omega (arith, after_is, h.rises i (omega arith), h.position i (omega arith), h.position (suc i) (omega arith)) in
        let long = lay_length q (slot_at d.slots i) s.bytes s.next (bytes_count i s.bytes s.encodes) rises (omega (arith, ap length next)) in
        let here = stands i (omega arith) before.0 before.1 in
        omega (arith, here (omega (arith, long, ap length s.is, ap length next)), long, ap length s.is, ap length next, after_is)

    pub rest_short : (i : ℕ) → i ≤ d.slots.count → (rest : List ℕ) → from_slot d i ≡ ok rest → length rest ≤ length image
    rest_short i l [] f = omega arith
    rest_short i l (x ∷ rest) f = omega (arith, stands i l (x ∷ rest) f (omega arith))

    -- a slot's bytes lie within the image
    pub slot_fits : (i : ℕ) → i < d.slots.count → 0 < size_of d i → get_or d.positions i 0 + size_of d i ≤ length image
    slot_fits i l some =
        let r = rest_ok d i (omega arith) image e in
        let s = step_ok d i l r.0 r.1 in
        let q = position (program d) i in
        let count = bytes_count i s.bytes s.encodes in
        let same = size_here_lem h i l in
        let long = ap length (s.is ∙ lay_bytes q (slot_at d.slots i) s.bytes s.next (omega (arith, some, same))) ∙ length-append s.bytes s.next in
        omega (arith, stands i (omega arith) r.0 r.1 (omega (arith, long, count, same, some)), long, count, same, h.position i (omega arith))

    -- a slot's bytes in front of the rest: the room then holds the image from the slot on
    pub record Laid (i : ℕ) (next behind : List ℕ) : Type 0 where
      pub bytes : List ℕ
      pub rest : List ℕ
      pub encodes : encode_at d i ≡ ok bytes
      pub from : from_slot d i ≡ ok rest
      pub room : put (room_of (length image) next behind) (get_or d.positions i 0) bytes ≡ room_of (length image) rest behind

    pub laid : (i : ℕ) → i < d.slots.count → (next behind : List ℕ) → from_slot d (suc i) ≡ ok next → Laid i next behind
    laid i l next behind f =
        let r = rest_ok d i (omega arith) image e in
        let s = step_ok d i l r.0 r.1 in
        let q = position (program d) i in
        let x = slot_at d.slots i in
        let is : r.0 ≡ lay q x s.bytes next = s.is ∙ ap (lay q x s.bytes) (ok_same (sym s.follows ∙ f)) in
        let here : 0 < length (lay q x s.bytes next) → length image ≡ q + length (lay q x s.bytes next) =
        λ some. stands i (omega arith) r.0 r.1 (rw is some) ∙ ap (λ b. q + length b) is in
        record {
          bytes = s.bytes;
          rest = r.0;
          encodes = s.encodes;
          from = r.1;
          room = ap (λ n. put (room_of (length image) next behind) n s.bytes) (h.position i (omega arith))
              ∙ room_step (length image) q x next behind s.bytes (bytes_count i s.bytes s.encodes) here
              ∙ ap (λ b. room_of (length image) b behind) (sym is);
        }

-- ---- its length

pub image_is : (d : Tables) → is_ok (encode_slots d) ≡ true → encode_slots d ≡ ok (image_of d)
unfolding image_of is_ok judged_or
image_is d e = on (encode_slots d) refl e
  where
    on : (x : Judged (List ℕ)) → encode_slots d ≡ x → is_ok x ≡ true → encode_slots d ≡ ok (judged_or x [])
    on (ok image) q t = q
    on (no r) q t = false_true t

module _ (d : Tables) where
  -- nothing is left from slot i on
  abbrev pub Done : (i : ℕ) → Type 0
  Done i = (rest : List ℕ) → from_slot d i ≡ ok rest → rest ≡ []

  pub done_end : Done d.slots.count
  done_end rest f = sym (ok_same (sym (from_end d d.slots.count (omega arith)) ∙ f))

  -- no bytes in this slot
  pub done_more : (i : ℕ) → i < d.slots.count → size_here d i ≡ 0 → Done (suc i) → Done i
  done_more i l z h rest f =
      let s = step_ok d i l rest f in
      let q = position (program d) i in
      let x = slot_at d.slots i in
      let none : s.bytes ≡ [] = empty_is s.bytes (bytes_count d i s.bytes s.encodes ∙ z) in
      s.is ∙ ap (λ b. lay q x b s.next) none ∙ ap (λ r. lay q x [] r) (h s.next s.follows) ∙ lay_empty q x

  -- the last slot with bytes: the image ends where it does
  pub length_found : Ready d → (image : List ℕ) → encode_slots d ≡ ok image → (i : ℕ) → i < d.slots.count → 0 < size_here d i → Done (suc i)
      → position (program d) (suc i) ≡ length image
  length_found ready image e i l some h =
      let r = rest_ok d i (omega arith) image e in
      let s = step_ok d i l r.0 r.1 in
      let q = position (program d) i in
      let x = slot_at d.slots i in
      let is : r.0 ≡ s.bytes = s.is ∙ lay_bytes q x s.bytes s.next some ∙ ap (λ t. s.bytes ++ t) (h s.next s.follows) ∙ append-nil s.bytes in
      let count = bytes_count d i s.bytes s.encodes in
      let at : length image ≡ q + length r.0 = stands d ready image e i (omega arith) r.0 r.1 (omega (arith, ap length is, count)) in
      omega (arith, at, ap length is, count, position_next d i l, after_bytes q x some)

  pub length_none : (image : List ℕ) → encode_slots d ≡ ok image → Done 0 → 0 ≡ length image
  length_none image e h = sym (ap length (h image (sym (from_start d) ∙ e)))

-- ---- an instruction's bytes, as the code holds them

-- the code of bytes that are three at most
pub record Coded (x : Judged (List ℕ)) (code : Code) : Type 0 where
  pub bytes : List ℕ
  pub is : x ≡ ok bytes
  pub short : length bytes ≤ 3
  pub len : code.len ≡ length bytes
  pub holds : bytes_of_code code ≡ bytes

held_by : (b : List ℕ) → length b ≤ 3 → ((code_from b).len ≡ length b) × (bytes_of_code (code_from b) ≡ b)
held_by [] l = (refl, refl)
held_by (x ∷ []) l = (refl, refl)
held_by (x ∷ y ∷ []) l = (refl, refl)
held_by (x ∷ y ∷ z ∷ []) l = (refl, refl)
held_by (x ∷ y ∷ z ∷ w ∷ b) l = absurd (omega arith)

pub coded : (x : Judged (List ℕ)) → ((b : List ℕ) → x ≡ ok b → length b ≤ 3) → {o : Result Code Refusal} {code : Code} → o ≡ encoded_as x → o ≡ Ok code → Coded x code
coded (ok b) short {o} {code} e q =
    let c : code_from b ≡ code = (let w : ◌≡◌ {A = Result Code Refusal} (Ok (code_from b)) (Ok code) = sym e ∙ q in cc) in
    let h = held_by b (short b refl) in
    record {
      bytes = b;
      is = refl;
      short = short b refl;
      len = ap (λ y. y.len) (sym c) ∙ h.0;
      holds = ap (λ y. bytes_of_code y) (sym c) ∙ h.1;
    }
coded (no r) short e q = clash (cc)

pub refused : (x : Judged (List ℕ)) {o : Result Code Refusal} {r : Refusal} → o ≡ encoded_as x → o ≡ Err r → x ≡ no r
refused (ok b) e q = clash (cc)
refused (no r) e q = cc

pub instr_short : (d : Tables) → Ready d → (i : ℕ) → i < d.slots.count → kind_of (slot_at d.slots i) ≡ 1 → (b : List ℕ) → encode_at d i ≡ ok b → length b ≤ 3
instr_short d h i l e b q = omega (arith, bytes_count d i b q, size_instr (position (program d) i) d.slots i e, size_bound (get_or d.slots.forms i 0))
