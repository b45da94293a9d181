-- Which names a file of a real mail folder may have.
use Rattle.std.specs.Prelude.{ℕ, ◌==◌, ◌&&◌, Bool, not, nat_eq, List, length, codes}
use Rattle.std.specs.List.{list_any, starts_with}

-- how the names begin under which a put writes before it renames
abbrev pub temporary : List ℕ
temporary = codes ".unfinished-"

abbrev pub has_byte : ℕ → List ℕ → Bool
has_byte byte name = list_any (λ other. nat_eq other byte) name

-- a name is not empty, is none of these, and has no slash and no zero byte
abbrev pub is_file_name : List ℕ → Bool
is_file_name name =
    not (length name == 0) && not (starts_with nat_eq name temporary) && not (has_byte 47 name) && not (has_byte 0 name)
