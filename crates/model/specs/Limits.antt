-- Document 01, 'Limits': each limit, and what each area lent to a run needs, named once.
use Rattle.std.specs.Prelude.{ℕ, ◌+◌}

-- rows of a table
abbrev pub max_rows : ℕ
max_rows = 512

-- links to a row: none, or its number plus one
abbrev pub max_links : ℕ
max_links = max_rows + 1

-- documents, numbered from 0
abbrev pub documents : ℕ
documents = 8

-- names, numbered from 1
abbrev pub max_name : ℕ
max_name = 255

-- records of a script
abbrev pub max_records : ℕ
max_records = 64

-- depth of a script, the outermost being 1
abbrev pub max_depth : ℕ
max_depth = 16

-- binders nested in one another's second operands
abbrev pub max_binders : ℕ
max_binders = 8

-- items of a value
abbrev pub max_items : ℕ
max_items = 512

-- records of a history that undo reads
abbrev pub max_history : ℕ
max_history = 2048

-- lent to a run: answer and work in two-byte numbers, history in bytes
abbrev pub answer_need : ℕ
answer_need = max_items

abbrev pub history_need : ℕ
history_need = 12288

abbrev pub work_need : ℕ
work_need = 32768
