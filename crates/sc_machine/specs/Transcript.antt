-- How printed lines are spelled, and how a thread's bytes become its lines in a transcript.
use Rattle.std.specs.Prelude.{ℕ, ◌==◌, Bool, if◌then◌else◌, List, [], ◌∷◌, ◌++◌, decimal}
use Rattle.std.specs.List.{flat_map}
use Rattle.sc_machine.specs.Machine.{Printed}

-- the bytes that stand before each line of a thread: its number and a space
abbrev pub tag : ℕ → List ℕ
tag t = decimal t ++ 32 ∷ []

-- a line of a transcript: the tag of its thread, and the line
abbrev pub spelled : Printed → List ℕ
spelled printed = tag printed.thread ++ printed.line

-- the bytes of a transcript
abbrev pub transcript_bytes : List Printed → List ℕ
transcript_bytes lines = flat_map spelled lines

-- the bytes of the lines, without their threads
abbrev pub line_bytes : List Printed → List ℕ
line_bytes lines = flat_map (λ printed. printed.line) lines

-- the bytes of the lines of one thread
abbrev pub bytes_of : ℕ → List Printed → List ℕ
bytes_of t lines = flat_map (λ printed. if printed.thread == t then printed.line else []) lines

-- these bytes with the thread's tag before each line; begins tells whether the first byte begins a line
abbrev pub tagged : ℕ → Bool → List ℕ → List ℕ
tagged t begins [] = []
tagged t begins (byte ∷ bytes) = (if begins then tag t else []) ++ byte ∷ tagged t (byte == 10) bytes
