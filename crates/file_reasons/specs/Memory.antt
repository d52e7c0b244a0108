-- What memory was needed for when it ran out.
use Rattle.std.specs.Prelude.{ℕ, List, ◌++◌, string_bytes, codes}
use Rattle.explanations.specs.Lines.{line_of}
use Rattle.file_reasons.specs.Sizes.{bytes_in_words}
use Rattle.file_reasons.specs.declared.memory.MemoryReason.{MemoryReason}
use Rattle.file_reasons.specs.declared.memory.MemoryReason.TheVariants.{File, Script}

-- what the program was doing, in words (own)
abbrev pub memory_text : MemoryReason → List ℕ
memory_text (File name) = codes "as it was opened or read, the file " ++ string_bytes name
memory_text (Script bytes) = codes "as the script was read, behind " ++ (bytes_in_words bytes ++ codes " of it")

-- the lines of memory that ran out: what it was needed for, what to do (own)
abbrev pub memory_lines : MemoryReason → List ℕ
memory_lines reason =
    line_of (codes "memory ran out: " ++ memory_text reason)
    ++ line_of (codes "to do: give the program more memory; a loaded cartridge takes 24 bytes for each block")
