-- The lines of large texts, and the text of the largest sheet. Assumes nothing.
use Rattle.std.specs.Prelude.{ℕ, List, ◌++◌, codes}
use Rattle.std.specs.List.{repeat}

abbrev pub library_method : List ℕ
library_method = codes "L     6     1     1\n"

abbrev pub own_method : List ℕ
own_method = codes "M     6     1   250    64\n"

abbrev pub instruction : List ℕ
instruction = codes "I    18 -2147483648\n"

abbrev pub handler : List ℕ
handler = codes "X  2048  2048     2  2048  2048\n"

-- 32 library methods, and 16 own methods of 128 instructions and 16 handlers each
unfoldable pub largest_text : List ℕ
largest_text = repeat 32 library_method ++ repeat 16 ((own_method ++ repeat 128 instruction) ++ repeat 16 handler)
