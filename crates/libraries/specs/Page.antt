-- The rule of the page, over its 256 codes as a list. Assumes nothing.
use Rattle.std.specs.Prelude.{ℕ, ◌+◌, Bool, if◌then◌else◌, ◌&&◌, List, [], ◌∷◌, ◌++◌, take, drop, replicate, ℤ, pos, negsuc, ◌==◌, nat_lt, slice_index_or, slice_set}
use Rattle.interface.specs.declared.value.Value.{Value}
use Rattle.interface.specs.declared.answers.LibraryAnswer.TheVariants.{Return}
use Rattle.libraries.specs.Arguments.{Step, raise, done, same, with_one, with_two}

-- a page as it is made
abbrev pub blank : List ℤ
blank = replicate 256 (pos 0)

-- the code at a place
abbrev pub code_at : List ℤ → ℕ → ℤ
code_at cs p = slice_index_or cs p (pos 0)

-- read(p): the code at p; 1 for a place outside 0 to 255
abbrev pub read_at : List ℤ → ℤ → Step (List ℤ)
read_at cs (negsuc k) = raise 1 cs
read_at cs (pos p) = if nat_lt p 256 then (Return (code_at cs p), cs) else raise 1 cs

-- the code c put at a place that there is; 2 for a code outside 0 to 1114111
abbrev pub put_code : List ℤ → ℕ → ℤ → Step (List ℤ)
put_code cs p (negsuc k) = raise 2 cs
put_code cs p (pos c) = if nat_lt c 1114112 then done (slice_set cs p (pos c)) else raise 2 cs

-- put(p, c): 1 for a place outside 0 to 255, then 2 for a code out of range
abbrev pub put_at : List ℤ → ℤ → ℤ → Step (List ℤ)
put_at cs (negsuc k) c = raise 1 cs
put_at cs (pos p) c = if nat_lt p 256 then put_code cs p c else raise 1 cs

-- the page without the two codes at p and p + 1: the rest moves up, and two zeros end the page
abbrev pub joined : List ℤ → ℕ → List ℤ
joined cs p = take p cs ++ (drop (p + 2) cs ++ (pos 0 ∷ (pos 0 ∷ [])))

-- a hyphen (45) stands at p and a line feed (10) behind it
abbrev pub hyphenated : List ℤ → ℕ → Bool
hyphenated cs p = same (code_at cs p) (pos 45) && same (code_at cs (p + 1)) (pos 10)

-- join(p): 1 for a place outside 0 to 254, then 3 where no hyphen and line feed stand
abbrev pub join_at : List ℤ → ℤ → Step (List ℤ)
join_at cs (negsuc k) = raise 1 cs
join_at cs (pos p) =
    if nat_lt p 255 then (if hyphenated cs p then done (joined cs p) else raise 3 cs)
    else raise 1 cs

-- the rule of the page: 0 read, 1 put, 2 join, and 7 for another method
abbrev pub page_rule : List ℤ → ℕ → List Value → Step (List ℤ)
page_rule cs m vs =
    if m == 0 then with_one cs (read_at cs) vs
    else if m == 1 then with_two cs (put_at cs) vs
    else if m == 2 then with_one cs (join_at cs) vs
    else raise 7 cs
