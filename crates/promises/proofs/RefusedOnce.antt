-- "No number is given without its cause", and the refusal given is the first in document 01's order. "After the first assembly only 12 can be given."
use mathlib.Core.Path.{◌≡◌, refl, sym, ◌∙◌, ap}
use mathlib.Core.Logic.{◌↔◌}
use mathlib.Core.List.{List, [], ◌∷◌}
use mathlib.Core.Bool.{Bool, true, false}
use Prim.Native.Nat.{ℕ}
use lib.ListN.{length}
use Rattle.laws.proofs.Tests.{clash}
use Rattle.rules.specs.declared.Settings.{Settings}
use Rattle.rules.specs.declared.Refusal.{Refusal}
use Rattle.rules.specs.declared.Refusal.TheVariants.{Room}
use Rattle.rules.specs.Refusals.{fault_of}
use Rattle.rules.specs.Answers.{Judged, ok, no, Check, ◌>>=◌, ◌>>◌, require}
use Rattle.rules.specs.Programs.{Program}
use Rattle.rules.specs.Listing.{read_listing, beside_of}
use Rattle.rules.specs.Names.{Entry, placed}
use Rattle.rules.specs.Judging.{no_name_twice, positions_fit, define_all, encode_all, judge}
use Rattle.rules.specs.Run.{output_of, fits, run}
use Rattle.promises.specs.Demand1.{Blames, has_number, Cause, reading, naming, laying, defining, encoding, room}
use Rattle.promises.specs.Entry.{twelve}
use Rattle.promises.proofs.General.{among}
use Rattle.promises.proofs.Says.{says_no, Nothing-more}
use Rattle.promises.proofs.Listings.{read_refuses}
use Rattle.promises.proofs.Numbers.{naming_says, laying_says, defining_says, encoding_says}

-- judging's refusal, by the pass that gives it
module _ (asked : Settings) (text : List ℕ) (listing_room image_room : ℕ) (r : Refusal) (p : Program) (read : read_listing text ≡ ok p) where
  of_encoding : (names : List Entry) → no_name_twice [] (placed p) ≡ ok tt → positions_fit (placed p) ≡ ok tt → define_all [] (placed p) ≡ ok names
      → encode_all names p (placed p) ≡ no r → Cause asked text listing_room image_room r
  of_encoding names a b c e =
      encoding p names read a b c e (says_no Nothing-more (Blames (4 ∷ 7 ∷ 8 ∷ 9 ∷ 10 ∷ 11 ∷ []) (length p)) (encode_all names p (placed p)) r (encoding_says p names) e)

  of_defining : no_name_twice [] (placed p) ≡ ok tt → positions_fit (placed p) ≡ ok tt → (x : Judged (List Entry)) → define_all [] (placed p) ≡ x
      → x >>= (λ names. encode_all names p (placed p)) ≡ no r → Cause asked text listing_room image_room r
  unfolding ◌>>=◌
  of_defining a b (ok names) c e = of_encoding names a b c e
  of_defining a b (no s) c e =
      let d : define_all [] (placed p) ≡ no r = c ∙ ap no (cc) in
      defining p read a b d (says_no Nothing-more (Blames (4 ∷ 7 ∷ []) (length p)) (define_all [] (placed p)) r (defining_says p) d)

  of_laying : no_name_twice [] (placed p) ≡ ok tt → (x : Check) → positions_fit (placed p) ≡ x → x >> (define_all [] (placed p) >>= (λ names. encode_all names p (placed p))) ≡ no r
      → Cause asked text listing_room image_room r
  unfolding ◌>>◌
  of_laying a (ok t) b e = of_defining a b (define_all [] (placed p)) refl e
  of_laying a (no s) b e =
      let d : positions_fit (placed p) ≡ no r = b ∙ ap no (cc) in
      laying p read a d (says_no Nothing-more (Blames (5 ∷ 6 ∷ []) (length p)) (positions_fit (placed p)) r (laying_says p) d)

  of_naming : (x : Check) → no_name_twice [] (placed p) ≡ x
      → x >> (positions_fit (placed p) >> (define_all [] (placed p) >>= (λ names. encode_all names p (placed p)))) ≡ no r → Cause asked text listing_room image_room r
  unfolding ◌>>◌
  of_naming (ok t) a e = of_laying a (positions_fit (placed p)) refl e
  of_naming (no s) a e =
      let d : no_name_twice [] (placed p) ≡ no r = a ∙ ap no (cc) in
      naming p read d (says_no Nothing-more (Blames (3 ∷ []) (length p)) (no_name_twice [] (placed p)) r (naming_says p) d)

  of_judging : judge p ≡ no r → Cause asked text listing_room image_room r
  unfolding judge
  of_judging e = of_naming (no_name_twice [] (placed p)) refl e

  of_room : (image : List ℕ) → judge p ≡ ok image → (b : Bool) → fits listing_room image_room (output_of asked (beside_of text) p) ≡ b
      → require b (Room (length p)) (ok (output_of asked (beside_of text) p)) ≡ no r → Cause asked text listing_room image_room r
  unfolding require
  of_room image j true f e = clash (cc)
  of_room image j false f e = room p image read j f (cc)

  of_program : (x : Judged (List ℕ)) → judge p ≡ x → x >> require (fits listing_room image_room (output_of asked (beside_of text) p)) (Room (length p)) (ok (output_of asked (beside_of text) p)) ≡ no r
      → Cause asked text listing_room image_room r
  unfolding ◌>>◌
  of_program (ok image) j e = of_room image j (fits listing_room image_room (output_of asked (beside_of text) p)) refl e
  of_program (no s) j e = of_judging (j ∙ ap no (cc))

module _ (asked : Settings) (text : List ℕ) (listing_room image_room : ℕ) (r : Refusal) where
  of_text : (x : Judged Program) → read_listing text ≡ x
      → x >>= (λ p. judge p >> require (fits listing_room image_room (output_of asked (beside_of text) p)) (Room (length p)) (ok (output_of asked (beside_of text) p))) ≡ no r → Cause asked text listing_room image_room r
  unfolding ◌>>=◌
  of_text (ok p) d e = of_program asked text listing_room image_room r p d (judge p) refl e
  of_text (no s) d e =
      let g : read_listing text ≡ no r = d ∙ ap no (cc) in
      reading g (read_refuses text r g)

  refused_by_cause : run asked text listing_room image_room ≡ no r → Cause asked text listing_room image_room r
  unfolding run
  refused_by_cause e = of_text (read_listing text) refl e

  room_refuses : (p : Program) (image : List ℕ) → read_listing text ≡ ok p → judge p ≡ ok image → fits listing_room image_room (output_of asked (beside_of text) p) ≡ false → r ≡ Room (length p)
      → run asked text listing_room image_room ≡ no r
  unfolding run ◌>>=◌ ◌>>◌ require
  room_refuses p image d j f e = rw (d, ◌>>=◌, j, ◌>>◌, f, e)

  cause_refuses : Cause asked text listing_room image_room r → run asked text listing_room image_room ≡ no r
  unfolding run judge ◌>>=◌ ◌>>◌ require
  cause_refuses (reading e n) = rw (e, ◌>>=◌)
  cause_refuses (naming p d e n) = rw (d, ◌>>=◌, e, ◌>>◌)
  cause_refuses (laying p d a e n) = rw (d, ◌>>=◌, a, ◌>>◌, e, ◌>>◌)
  cause_refuses (defining p d a b e n) = rw (d, ◌>>=◌, a, ◌>>◌, b, ◌>>◌, e, ◌>>=◌)
  cause_refuses (encoding p names d a b c e n) = rw (d, ◌>>=◌, a, ◌>>◌, b, ◌>>◌, c, ◌>>=◌, e, ◌>>◌)
  cause_refuses (room p image d j f e) = room_refuses p image d j f e

  -- refused-once: a run is refused with r exactly when r has its cause, the causes before it having passed
  pub refused_once : run asked text listing_room image_room ≡ no r ↔ Cause asked text listing_room image_room r
  refused_once = (refused_by_cause, cause_refuses)

-- one-of-twelve: what has a cause has one of document 01's numbers, none of document 02's
pub one_of_twelve : (asked : Settings) (text : List ℕ) (listing_room image_room : ℕ) (r : Refusal) → Cause asked text listing_room image_room r → has_number twelve r ≡ true
one_of_twelve asked text listing_room image_room r (reading e h) = among (fault_of r).number (1 ∷ 2 ∷ []) twelve refl h
one_of_twelve asked text listing_room image_room r (naming p e a h) = among (fault_of r).number (3 ∷ []) twelve refl h.number
one_of_twelve asked text listing_room image_room r (laying p e a b h) = among (fault_of r).number (5 ∷ 6 ∷ []) twelve refl h.number
one_of_twelve asked text listing_room image_room r (defining p e a b c h) = among (fault_of r).number (4 ∷ 7 ∷ []) twelve refl h.number
one_of_twelve asked text listing_room image_room r (encoding p names e a b c f h) = among (fault_of r).number (4 ∷ 7 ∷ 8 ∷ 9 ∷ 10 ∷ 11 ∷ []) twelve refl h.number
one_of_twelve asked text listing_room image_room r (room p image e j f h) = ap (has_number twelve) h

-- two causes are the cause of one refusal
pub one_refusal : (asked : Settings) (text : List ℕ) (listing_room image_room : ℕ) (r s : Refusal) → Cause asked text listing_room image_room r → Cause asked text listing_room image_room s → r ≡ s
one_refusal asked text listing_room image_room r s a b =
    let e : no r ≡ no s = sym ((refused_once asked text listing_room image_room r).1 a) ∙ (refused_once asked text listing_room image_room s).1 b in
    cc
