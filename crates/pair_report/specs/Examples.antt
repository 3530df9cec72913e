-- Document 01's examples of `pair` as one statement.
use Rattle.std.specs.Prelude.{◌≡◌, List, [], ◌∷◌, ℕ}
use Rattle.model.specs.Cases.{bytes_p, bytes_a, bytes_b}
use Rattle.pair_text.specs.Text.{ascii}
use Rattle.pair_report.specs.Pair.{pair_text}

-- an insert whose target is the empty value: 7
abbrev pub bytes_no_target : List ℕ
bytes_no_target = 0x0C ∷ 0x01 ∷ 0x01 ∷ []

-- P, A and B; P and an empty `first`; a refused run, of the second script and of the first
abbrev pub Examples : Type 0
Examples =
    (pair_text bytes_p bytes_a bytes_b ≡ ascii "answer free\none-two 1 0 6\ntwo-one 1 0 6\n") ×
    (pair_text bytes_p [] bytes_b ≡ ascii "file first 2 0\n") ×
    (pair_text bytes_p bytes_a bytes_no_target ≡ ascii "answer free\none-two refused 2 7\ntwo-one refused 2 7\n") ×
    (pair_text bytes_p bytes_no_target bytes_a ≡ ascii "answer free\none-two refused 1 7\ntwo-one refused 1 7\n")
