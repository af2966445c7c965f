-- What the loops of the check of a method keep, and one turn of each. Assumes nothing.
use Rattle.std.proofs.Common.{◌≡◌, ℕ, zero, suc, ◌+◌, ◌<◌, ◌≤◌, true, false, List, [], ◌∷◌, ◌++◌, length, get_or, take, drop, set, replicate, Some, None, Ok, Err, Result, All, ok_or, sym, refl, ap, ◌∙◌, subst, add-one, arith}
use Rattle.std.proofs.lemmas.List.{append_assoc, append-nil, at_drop_more, at_drop_all, take_all, take_more_set, take-replicate, get_or-map, length-map}
use Rattle.std.proofs.lemmas.Bool.{cond-true, cond-false}
use Rattle.sheet.specs.Maps.{and_then}
use Rattle.sheet.specs.declared.instruction.Instruction.{Instruction}
use Rattle.sheet.specs.declared.location.PlainLocation.{PlainLocation}
use Rattle.sheet.specs.declared.records.Handler.{Handler}
use Rattle.sheet.specs.declared.records.Kind.TheVariants.{Every}
use Rattle.sheet.specs.declared.records.ReadInstruction.{ReadInstruction}
use Rattle.check_rules.specs.Check.{decoded_from, handled_from, catches, effects}
use Rattle.check_rules.specs.Coding.{decoded}
use Rattle.check_rules.specs.Depths.{Depths, visited, swept}
use Rattle.check_rules.specs.Effects.{Place, effect_of}
use Rattle.check_rules.specs.Places.{plain}
use Rattle.check_rules.specs.Ranges.{handles}

-- a function of a number and what is left of a list, one step on
step : {X Y : Type 0} (F : ℕ → List X → Y) (xs : List X) (i : ℕ) (d : X) → i < length xs → F i (drop i xs) ≡ F i (get_or xs i d ∷ drop (suc i) xs)
step F xs i d h = at_drop_more (F i) xs i d h ∙ ap (λ k. F i (get_or xs i d ∷ drop k xs)) (add-one i)

-- HANDLERS

-- a handler that suits the method, and one that does not
module _ (limit n : ℕ) (xs : List (Handler PlainLocation)) (i : ℕ) (d : Handler PlainLocation) (inside : i < length xs) where
  pub suits_next : handles limit n (get_or xs i d) ≡ true → handled_from limit n i (drop i xs) ≡ handled_from limit n (i + 1) (drop (i + 1) xs)
  suits_next h = step (handled_from limit n) xs i d inside ∙ cond-true _ _ _ h ∙ ap (λ k. handled_from limit n k (drop k xs)) (sym (add-one i))

  pub suits_not : handles limit n (get_or xs i d) ≡ false → handled_from limit n i (drop i xs) ≡ Err i
  suits_not h = step (handled_from limit n) xs i d inside ∙ cond-false (handles limit n (get_or xs i d)) (handled_from limit n (suc i) (drop (suc i) xs)) (Err i) h

-- INSTRUCTIONS

-- instructions ahead of those that are still to come
abbrev pub ahead : {X : Type 0} → List X → Result (List X) ℕ → Result (List X) ℕ
ahead xs r = and_then r (λ ys. Ok (xs ++ ys))

ahead_cons : {X : Type 0} (xs : List X) (x : X) (r : Result (List X) ℕ) → ahead xs (and_then r (λ ys. Ok (x ∷ ys))) ≡ ahead (xs ++ x ∷ []) r
ahead_cons xs x (Ok ys) = ap Ok (sym (append_assoc xs (x ∷ []) ys))
ahead_cons xs x (Err e) = refl

-- an instruction whose operand means something, and one whose does not
module _ (p : Place) (rs : List ReadInstruction) (out : List (Instruction PlainLocation)) (i : ℕ) (d : ReadInstruction) (inside : i < length rs) (room : i < length out) where
  pub decoded_next : (x : Instruction PlainLocation) → decoded p (get_or rs i d) ≡ Some x → ahead (take i out) (decoded_from p i (drop i rs)) ≡ ahead (take (i + 1) (set out i x)) (decoded_from p (i + 1) (drop (i + 1) rs))
  decoded_next x e =
      let rest = decoded_from p (suc i) (drop (suc i) rs) in
      ap (ahead (take i out)) (step (decoded_from p) rs i d inside ∙ ap (λ o. and_then (ok_or o i) (λ y. and_then rest (λ ys. Ok (y ∷ ys)))) e)
      ∙ ahead_cons (take i out) x rest
      ∙ ap (λ t. ahead t rest) (sym (take_more_set out i x room))
      ∙ ap (λ k. ahead (take (i + 1) (set out i x)) (decoded_from p k (drop k rs))) (sym (add-one i))

  pub decoded_not : decoded p (get_or rs i d) ≡ None → ahead (take i out) (decoded_from p i (drop i rs)) ≡ Err i
  decoded_not e = ap (ahead (take i out)) (step (decoded_from p) rs i d inside ∙ ap (λ o. and_then (ok_or o i) (λ y. and_then (decoded_from p (suc i) (drop (suc i) rs)) (λ ys. Ok (y ∷ ys)))) e)

-- at the end of the loop, and at its beginning
pub decoded_all : (p : Place) (rs : List ReadInstruction) (out : List (Instruction PlainLocation)) (i : ℕ) → length rs ≤ i → length out ≤ i → ahead (take i out) (decoded_from p i (drop i rs)) ≡ Ok out
decoded_all p rs out i h k = ap (ahead (take i out)) (at_drop_all (decoded_from p i) rs i h) ∙ ap Ok (append-nil (take i out) ∙ take_all i out k)

pub decoded_start : (p : Place) (rs : List ReadInstruction) (out : List (Instruction PlainLocation)) → ahead (take 0 out) (decoded_from p 0 rs) ≡ decoded_from p 0 rs
decoded_start p rs out = keep (decoded_from p 0 rs)
  where
    keep : (r : Result (List (Instruction PlainLocation)) ℕ) → ahead [] r ≡ r
    keep (Ok ys) = refl
    keep (Err e) = refl

-- DEPTHS

-- a location whose depth agrees, and one whose does not
module _ (limit : ℕ) (p : Place) (is : List (Instruction PlainLocation)) (ds : Depths) (i : ℕ) (d : Instruction PlainLocation) (inside : i < length is) where
  here : swept (effects p (drop i is)) i limit ds ≡ and_then (ok_or (visited (effect_of plain p (get_or is i d)) i limit ds) i) (swept (effects p (drop (i + 1) is)) (i + 1) limit)
  here = at_drop_more (λ js. swept (effects p js) i limit ds) is i d inside

  pub swept_next : (es : Depths) → visited (effect_of plain p (get_or is i d)) i limit ds ≡ Some es → swept (effects p (drop i is)) i limit ds ≡ swept (effects p (drop (i + 1) is)) (i + 1) limit es
  swept_next es e = here ∙ ap (λ o. and_then (ok_or o i) (swept (effects p (drop (i + 1) is)) (i + 1) limit)) e

  pub swept_not : visited (effect_of plain p (get_or is i d)) i limit ds ≡ None → swept (effects p (drop i is)) i limit ds ≡ Err i
  swept_not e = here ∙ ap (λ o. and_then (ok_or o i) (swept (effects p (drop (i + 1) is)) (i + 1) limit)) e

-- CATCH BEGINS

-- what stands for a handler where there is none
abbrev pub no_handler : Handler PlainLocation
no_handler = record { try_begin = record { number = 0 }; try_end = record { number = 0 }; kind = Every; catch_begin = record { number = 0 }; catch_end = record { number = 0 } }

-- a catch begin is inside what all of them are inside
pub catch_inside : (xs : List (Handler PlainLocation)) (i n : ℕ) (d : Handler PlainLocation) → i < length xs → All (λ b. b < n) (catches xs) → (get_or xs i d).catch_begin.number < n
catch_inside xs i n d lt w = subst (λ b. b < n) (get_or-map (λ x. x.catch_begin.number) xs i d 0 lt) (w i 0 (omega (arith, length-map xs (λ x. x.catch_begin.number))))

-- the part of a list of no depths that a method takes
pub begun_part : {X : Type 0} (N n : ℕ) (d v : X) → n ≤ N → take n (set (replicate N d) 0 v) ≡ set (replicate n d) 0 v
begun_part N zero d v h = refl
begun_part zero (suc n) d v h = absurd (omega arith)
begun_part (suc N) (suc n) d v h = ap (λ t. v ∷ t) (take-replicate n N d (omega arith))
