-- What drawing an arrow means: it stands where it was drawn, and every other one as before. Assumes nothing.
use Rattle.std.specs.Prelude.{◌≡◌, ℕ, ◌⊎◌, length, Some, Ok, ◌≢◌}
use Rattle.interface.specs.Answers.{kind_number}
use Rattle.interface.specs.declared.answers.QuestionKind.{QuestionKind}
use Rattle.policies.specs.Chart.{Arrows, arrow_at, drawn}

-- two arrows begin at different boxes, or on different kinds or methods
abbrev pub Apart : ℕ → QuestionKind → ℕ → ℕ → QuestionKind → ℕ → Type 0
Apart from kind m from' kind' m' = (from ≢ from') ⊎ ((kind_number kind ≢ kind_number kind') ⊎ (m ≢ m'))

-- a drawn arrow leads to its box, and every other arrow is as before
abbrev pub OneArrowDrawn : Type 0
OneArrowDrawn =
    (arrows new : Arrows) (from : ℕ) (kind : QuestionKind) (m to : ℕ) → length arrows ≡ 1536
    → drawn arrows from (kind_number kind) m to ≡ (Ok tt, new)
    → (arrow_at new from kind m ≡ Some to)
    × ((from' : ℕ) (kind' : QuestionKind) (m' : ℕ) → Apart from kind m from' kind' m'
    → arrow_at new from' kind' m' ≡ arrow_at arrows from' kind' m')
