-- The rule of the chart, over the list of its arrows, and the drawing of an arrow. Assumes nothing.
use Rattle.std.specs.Prelude.{◌≡◌, ℕ, ◌+◌, ◌-◌, ◌*◌, ◌<◌, Bool, true, if◌then◌else◌, ◌&&◌, List, length, replicate, pos, Some, None, Ok, Err, Option, Result, nat_lt, slice_index_or, slice_set, codes}
use Rattle.interface.specs.Answers.{kind_number, kind_numbered}
use Rattle.interface.specs.Rules.{PolicyRule}
use Rattle.interface.specs.declared.answers.QuestionKind.{QuestionKind}
use Rattle.interface.specs.declared.answers.QuestionKind.TheVariants.{Before, After, Except}
use Rattle.interface.specs.declared.answers.PolicyAnswer.{PolicyAnswer}
use Rattle.interface.specs.declared.answers.PolicyAnswer.TheVariants.{Pass, Stop}
use Rattle.policies.specs.declared.fault.ArrowFault.{ArrowFault}
use Rattle.policies.specs.declared.fault.ArrowFault.TheVariants.{NoSuchBox, NoSuchKind, NoSuchMethod, AlreadyThere}
use Rattle.refusal.specs.declared.Refusal.{Refusal}

-- the arrows of a chart: for each of 16 boxes, 3 kinds and 32 methods the box that an arrow leads to, if there is one
abbrev pub Arrows : Type 0
Arrows = List (Option ℕ)

-- a chart without arrows
abbrev pub no_arrows : Arrows
no_arrows = replicate 1536 None

-- where the arrow from a box on a kind and a method stands in the list
abbrev pub slot : ℕ → QuestionKind → ℕ → ℕ
slot from kind m = from * 96 + (kind_number kind - 2) * 32 + m

-- the box that an arrow leads to; on a method above 31 there is none
abbrev pub arrow_at : Arrows → ℕ → QuestionKind → ℕ → Option ℕ
arrow_at arrows from kind m = if nat_lt m 32 then slice_index_or arrows (slot from kind m) None else None

-- the answer where there is no arrow: a before stops with the number of the box
abbrev pub unmoved : QuestionKind → ℕ → PolicyAnswer
unmoved Before current = Stop (pos current)
unmoved After current = Pass
unmoved Except current = Pass

-- a question with an arrow passes and moves; without one the box stays
abbrev pub moved : QuestionKind → ℕ → Option ℕ → PolicyAnswer × ℕ
moved kind current (Some to) = (Pass, to)
moved kind current None = (unmoved kind current, current)

-- the rule of a chart with these arrows; the state is the current box
abbrev pub chart_rule : Arrows → PolicyRule ℕ
chart_rule arrows current kind m vs = moved kind current (arrow_at arrows current kind m)

-- an arrow leads to one of the 16 boxes, if there is one
abbrev pub leads_to_box : Option ℕ → Bool
leads_to_box None = true
leads_to_box (Some to) = nat_lt to 16

-- every arrow leads to a box
abbrev pub AllLead : Arrows → Type 0
AllLead arrows = (k : ℕ) → leads_to_box (slice_index_or arrows k None) ≡ true

-- what a chart is: its arrows, and the box that is current
pub record Moves : Type 0 where
  pub arrows : Arrows
  pub current : ℕ

-- a place for each arrow, and a chart in a box whose arrows lead to boxes
pub record IsSound (chart : Moves) : Type 0 where
  pub whole : length chart.arrows ≡ 1536
  pub boxed : chart.current < 16
  pub lead : AllLead chart.arrows

-- the answer to drawing an arrow, and the arrows after it
abbrev pub Drawn : Type 0
Drawn = Result (Unit {0}) ArrowFault × Arrows

-- an arrow to a box drawn at a place of the list, unless there is one
abbrev pub drawn_at : Arrows → ℕ → ℕ → Option ℕ → Drawn
drawn_at arrows place to None = (Ok tt, slice_set arrows place (Some to))
drawn_at arrows place to (Some old) = (Err AlreadyThere, arrows)

-- an arrow between boxes that there are, on a kind by its number and a method
abbrev pub drawn_on : Arrows → ℕ → Option QuestionKind → ℕ → ℕ → Drawn
drawn_on arrows from None m to = (Err NoSuchKind, arrows)
drawn_on arrows from (Some kind) m to =
    if nat_lt m 32 then drawn_at arrows (slot from kind m) to (slice_index_or arrows (slot from kind m) None)
    else (Err NoSuchMethod, arrows)

-- drawing an arrow; a refusal changes nothing
abbrev pub drawn : Arrows → ℕ → ℕ → ℕ → ℕ → Drawn
drawn arrows from number m to =
    if nat_lt from 16 && nat_lt to 16 then drawn_on arrows from (kind_numbered number) m to
    else (Err NoSuchBox, arrows)

-- every refusal of an arrow has number 17 and no place
abbrev pub arrow_refusal : ArrowFault → Refusal
arrow_refusal fault = record { number = 17; first = 0; second = 0 }

-- what is printed of each fault
abbrev pub arrow_words : ArrowFault → List ℕ
arrow_words NoSuchBox = codes "the boxes of a chart are 0 to 15"
arrow_words NoSuchKind = codes "the kinds of questions are 2 to 4"
arrow_words NoSuchMethod = codes "the methods of a chart are 0 to 31"
arrow_words AlreadyThere = codes "an arrow leaves that box on that kind and method already"
