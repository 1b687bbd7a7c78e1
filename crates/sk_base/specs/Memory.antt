-- What the objects in memory keep, as the words of their traits.
use Rattle.std.specs.Prelude.{◌≡◌, ℕ, Bool, List, [], map, find, slice_get, string_bytes, Option, Some, None}
use Rattle.std.specs.Option.{option_map, option_map_or}
use Rattle.std.specs.Str.{bytes_eq}
use Rattle.sk_base.specs.Talk.{Said, Taken, Given, NoneTaken, NoneGiven, Ended}
use Rattle.sk_base.specs.declared.memory.link.Kept.{Kept}
use Rattle.sk_base.specs.declared.memory.link.Kept.TheVariants as kept
use Rattle.sk_base.specs.declared.memory.files.MemFile.{MemFile}

-- ## A link

-- what one kept answer says
abbrev pub said_of : Kept → Said
said_of (kept.Took bytes) = Taken bytes.items
said_of (kept.Gave bytes) = Given bytes.items
said_of kept.TookNothing = NoneTaken
said_of kept.GaveNothing = NoneGiven
said_of kept.TookEnd = Ended

-- the talk that was kept
abbrev pub talk_of : List Kept → List Said
talk_of log = map said_of log

-- ## Files

-- whether the file has this path
abbrev pub has_path : List ℕ → MemFile → Bool
has_path path file = bytes_eq (string_bytes file.path) path

-- of two files with one path the first counts
abbrev pub content_of : List MemFile → List ℕ → Option (List ℕ)
content_of files path = option_map (λ file. file.content.items) (find (has_path path) files)

-- the path of the file of this index
abbrev pub path_at : List MemFile → ℕ → List ℕ
path_at files index = option_map_or (λ file. string_bytes file.path) (slice_get files index) []

-- and its bytes
abbrev pub content_at : List MemFile → ℕ → List ℕ
content_at files index = option_map_or (λ file. file.content.items) (slice_get files index) []

-- the file of this index is the first of this path
pub record IsFirst (path : List ℕ) (files : List MemFile) (index : ℕ) : Type 0 where
  pub path_is : path_at files index ≡ path
  pub content_is : content_of files path ≡ Some (content_at files index)
  pub own_is : content_of files (path_at files index) ≡ Some (content_at files index)

-- the path of the file that was opened last, by its index
abbrev pub opened_path : List MemFile → Option ℕ → List ℕ
opened_path files None = []
opened_path files (Some index) = path_at files index
