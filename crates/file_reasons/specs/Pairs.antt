-- A second file of a cartridge that does not go with the first one.
use Rattle.std.specs.Prelude.{ℕ, List, ◌++◌, string_bytes, codes}
use Rattle.explanations.specs.Lines.{line_of}
use Rattle.file_reasons.specs.Sizes.{bytes_in_words}
use Rattle.file_reasons.specs.declared.pairs.PairFault.{PairFault}
use Rattle.file_reasons.specs.declared.pairs.PairFault.TheVariants.{NoFirst, Link, Foreign, NoSecond}
use Rattle.file_reasons.specs.declared.pairs.PairReason.{PairReason}

-- what is refused of a second file of this name, in words (own)
abbrev pub refused_pair : List ℕ → PairFault → List ℕ
refused_pair file (NoFirst bytes) =
    codes "a new first file beside the second file " ++ (file ++ (codes ", which has " ++ bytes_in_words bytes))
refused_pair file Link = codes "a copy over the second file " ++ (file ++ codes ", which is a link")
refused_pair file (Foreign bytes) =
    codes "a copy over the second file " ++ (file ++ (codes ", which has " ++ bytes_in_words bytes))
refused_pair file NoSecond = codes "the second file " ++ (file ++ codes ", which is missing or has no byte")

-- what is refused, in words (own)
abbrev pub pair_text : PairReason → List ℕ
pair_text reason = refused_pair (string_bytes reason.file) reason.fault

-- what is allowed in place of it (own)
abbrev pub pair_allowed : PairFault → List ℕ
pair_allowed (NoFirst bytes) = codes "allowed: beside a new first file a second one that is missing or has no byte"
pair_allowed Link = codes "allowed: behind a closed pair gate a second file of 10 bytes at most, which is no link"
pair_allowed (Foreign bytes) =
    codes "allowed: behind a closed pair gate a second file of 10 bytes at most, which is no link"
pair_allowed NoSecond = codes "allowed: behind an open pair gate the second file that a reclaim left"

-- what to do about it (own)
abbrev pub pair_fix : PairFault → List ℕ
pair_fix (NoFirst bytes) =
    codes "to do: put the first file back from where it was saved; or remove the second one, with what it holds"
pair_fix Link =
    codes "to do: put both files back from where they were saved; or move this one away, if it is another's"
pair_fix (Foreign bytes) =
    codes "to do: put both files back from where they were saved; or move this one away, if it is another's"
pair_fix NoSecond = codes "to do: put it back from where it was saved, together with the first one"

-- the lines of such a file: what is refused, what is allowed, what to do (own)
abbrev pub pair_lines : PairReason → List ℕ
pair_lines reason =
    line_of (codes "refused: " ++ pair_text reason)
    ++ (line_of (pair_allowed reason.fault) ++ line_of (pair_fix reason.fault))
