-- What the program prints, for C: the page of an accepted text, and the 7E line of a refusal's four numbers.
use Rattle.rules.specs.declared.Refusal.{Refusal}
use Rattle.rules.specs.declared.Sizes.{Sizes}
use Rattle.std.specs.Prelude.{◌≡◌, List, ℕ, ◌%◌, take, drop, Result}
use Rattle.rules.specs.declared.Settings.{Settings}
use Rattle.rules.specs.Output.{refused_line}
use Rattle.rules.specs.Run.{program}
use Rattle.printing.specs.Page.{page_length, PrintedRun}
use Rattle.border_core.specs.declared.pages.PrintedReply.{PrintedReply}
use Rattle.border_core.specs.Replies.{fault_in, listing_of, rewrites_of, image_of}

pub record SaysPrinted (r : PrintedReply) (a : Result Sizes Refusal) : Type 0 where
  pub number : r.number ≡ (fault_in a).number
  pub place : r.place ≡ (fault_in a).place
  pub argument : r.argument ≡ (fault_in a).argument
  pub amount : r.amount ≡ (fault_in a).amount
  pub page : r.page ≡ page_length a
  pub listing : r.listing ≡ listing_of a
  pub rewrites : r.rewrites ≡ rewrites_of a
  pub image : r.image ≡ image_of a

-- `print_run`, with its answer so
pub record Prints (asked : Settings) (text : List ℕ) (r : PrintedReply) (page image page' image' : List ℕ) : Type 0 where
  pub answer : Result Sizes Refusal
  pub says : SaysPrinted r answer
  pub leaves : PrintedRun asked text page image answer page' image'

-- ---- what is shown: "The program reads a listing .. and writes the new one and a last line"; "On refusal it writes only 7E, number, place in two
-- bytes", and what C-12 adds. The caller hands the numbers of the answer on in the widths of the line, and nothing of them is lost
abbrev pub line_of : PrintedReply → List ℕ
line_of r = refused_line (record { number = r.number % 256; place = r.place % 65536; argument = r.argument % 256; amount = r.amount })

pub record PrintsAll (asked : Settings) (text : List ℕ) (r : PrintedReply) (page image page' image' : List ℕ) : Type 0 where
  pub accepted : r.number ≡ 0 → (take r.page page' ≡ program asked text) × (drop r.page page' ≡ drop r.page page)
  pub refused : (r.number ≡ 0 → ⊥) → (line_of r ≡ program asked text) × (page' ≡ page) × (image' ≡ image)
