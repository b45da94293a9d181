-- What a mail folder in memory shows.
use Rattle.std.specs.Prelude.{ℕ, List}
use Rattle.group_fields.specs.declared.counts.Counts.{Counts}
use Rattle.group_fields.specs.Plan.{KeepsPlan}
use Rattle.system_calls.specs.Plan.{failing_in, made_in, counts_in}
use Rattle.mail_trait.specs.Files.{files_of}
use Rattle.mail_trait.specs.Post.{Files, Put}
use Rattle.mail_trait.specs.declared.mem_post.MemPost.{MemPost}

-- its files
abbrev pub files_in : MemPost → Files
files_in post = files_of post.files

-- what was put, in order, failed puts too
abbrev pub puts_in : MemPost → List Put
puts_in post = post.puts.items

-- the numbers, from 1, of the calls that are to fail
abbrev pub failing_calls : MemPost → List ℕ
failing_calls post = failing_in post.plan

-- how many calls it has had
abbrev pub calls_made : MemPost → ℕ
calls_made post = made_in post.plan

abbrev pub counts_of : MemPost → Counts
counts_of post = counts_in post.plan

-- the same calls are to fail, and where there are none, none has failed
abbrev pub Follows : MemPost → MemPost → Type 0
Follows before now = KeepsPlan (failing_calls before) (failing_calls now) (counts_of before) (counts_of now)
