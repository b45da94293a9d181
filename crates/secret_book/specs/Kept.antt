-- The table of what is kept, as a list.
use Rattle.std.specs.Prelude.{List, map}
use Rattle.group_model.specs.Sets.{Bytes}
use Rattle.secret_book.specs.declared.kept_secrets.Answer.{Answer}
use Rattle.secret_book.specs.HeldBooks.{KeptSecret}

abbrev pub kept_row : Answer × Bytes → KeptSecret
kept_row entry = record { of = entry.0.of.0.0; place = entry.0.place; secret = entry.1 }

abbrev pub kept_rows : List (Answer × Bytes) → List KeptSecret
kept_rows entries = map kept_row entries
