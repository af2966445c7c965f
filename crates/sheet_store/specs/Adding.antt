-- When nothing is added to a sheet, and how that is said. Assumes nothing.
use Rattle.std.specs.Prelude.{◌≡◌, ℕ, ◌+◌, ◌<◌, ◌≤◌, ◌⊎◌, List, length, codes}
use Rattle.sheet.specs.View.{Method, instructions_in, handlers_in}
use Rattle.sheet.specs.declared.records.Shape.{Shape}
use Rattle.sheet_store.specs.declared.stored.AddFault.{AddFault}
use Rattle.sheet_store.specs.declared.stored.AddFault.TheVariants.{NoMethod, Full}

-- there is no method, or there is one and a sheet that has n of at most `most` has them all
abbrev pub AddRefused : AddFault → ℕ → ℕ → ℕ → Type 0
AddRefused NoMethod methods n most = methods ≡ 0
AddRefused Full methods n most = (0 < methods) × (n ≡ most)

-- a method with all its parts
abbrev pub whole : {I H : Type 0} → Shape → List I → List H → Method I H
whole s is xs = record { shape = s; code = is; handlers = xs }

-- there is no place for one method more with so many instructions and handlers
abbrev pub NoRoom : {I H : Type 0} → List (Method I H) → ℕ → ℕ → Type 0
NoRoom ms code handlers = (16 ≤ length ms) ⊎ ((2048 < instructions_in ms + code) ⊎ (256 < handlers_in ms + handlers))

-- a fault in words
abbrev pub fault_words : AddFault → List ℕ
fault_words NoMethod = codes "there is no method to add it to"
fault_words Full = codes "a sheet may not have more of it"
