-- Up to seven values can be read back from an entry.
use Rattle.std.proofs.Common.{[], ◌∷◌, refl, arith}
use Rattle.interface.specs.Entries.{KeepsUpToSeven}

pub keeps_up_to_seven : KeepsUpToSeven
keeps_up_to_seven [] h = refl
keeps_up_to_seven (a ∷ []) h = refl
keeps_up_to_seven (a ∷ (b ∷ [])) h = refl
keeps_up_to_seven (a ∷ (b ∷ (c ∷ []))) h = refl
keeps_up_to_seven (a ∷ (b ∷ (c ∷ (d ∷ [])))) h = refl
keeps_up_to_seven (a ∷ (b ∷ (c ∷ (d ∷ (e ∷ []))))) h = refl
keeps_up_to_seven (a ∷ (b ∷ (c ∷ (d ∷ (e ∷ (f ∷ [])))))) h = refl
keeps_up_to_seven (a ∷ (b ∷ (c ∷ (d ∷ (e ∷ (f ∷ (g ∷ []))))))) h = refl
keeps_up_to_seven (a ∷ (b ∷ (c ∷ (d ∷ (e ∷ (f ∷ (g ∷ (i ∷ rest)))))))) h = absurd (omega arith)
