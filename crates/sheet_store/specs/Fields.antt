-- What is true of the fields of a stored sheet. Assumes nothing.
use Rattle.std.specs.Prelude.{◌≡◌, ℕ, ◌≤◌, length, vec_len, vec_capacity}
use Rattle.std.specs.declared.vec.Vec.{Vec}
use Rattle.sheet_store.specs.Tiles.{IsTiled}
use Rattle.sheet_store.specs.declared.stored.Part.TheVariants.{Code, Handlers}
use Rattle.sheet_store.specs.declared.stored.StoredSheet.TheInside.{Inside}

-- a list has memory for exactly so many, and no more of them
pub record HasRoom {X Z : Type 0} (most : ℕ) (list : Vec X Z) : Type 0 where
  pub reserved : vec_capacity list ≡ most
  pub within : vec_len list ≤ most

-- each list has the room that a sheet needs, and the methods share the instructions and the handlers
pub record IsStored {I H : Type 0} (s : Inside I H) : Type 0 where
  pub library : HasRoom 32 s.library
  pub methods : HasRoom 16 s.methods
  pub code : HasRoom 2048 s.code
  pub handlers : HasRoom 256 s.handlers
  pub code_tiled : IsTiled Code s.methods.items (length s.code.items)
  pub handlers_tiled : IsTiled Handlers s.methods.items (length s.handlers.items)
