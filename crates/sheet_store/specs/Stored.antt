-- The sheet that a stored one holds. Assumes nothing.
use Rattle.std.specs.Prelude.{List, [], ◌∷◌, length}
use Rattle.std.specs.List.{between}
use Rattle.sheet.specs.View.{Method, Sheet}
use Rattle.sheet_store.specs.Tiles.{begin, start}
use Rattle.sheet_store.specs.declared.stored.Header.{Header}
use Rattle.sheet_store.specs.declared.stored.Part.{Part}
use Rattle.sheet_store.specs.declared.stored.Part.TheVariants.{Code, Handlers}
use Rattle.sheet.specs.declared.records.Signature.{Signature}

-- the part of a list that is a method's: from where it begins to where the first of the following methods' begins
abbrev pub part : {X : Type 0} → Part → Header → List Header → List X → List X
part p h hs xs = between (begin p h) (start p hs (length xs)) xs

-- the methods of some headers
abbrev pub cut : {I H : Type 0} → List Header → List I → List H → List (Method I H)
cut [] c x = []
cut (h ∷ hs) c x = record { shape = h.shape; code = part Code h hs c; handlers = part Handlers h hs x } ∷ cut hs c x

-- the sheet that is stored as a library, headers, and the instructions and handlers of all methods
abbrev pub sheet_in : {I H : Type 0} → List Signature → List Header → List I → List H → Sheet I H
sheet_in library headers c x = record { library = library; methods = cut headers c x }
