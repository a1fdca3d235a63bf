-- R9.10: the words with which no comment of a witness may begin.
use Rattle.std.specs.Prelude.{Bool, true, false, not, ◌||◌, List}
use Rattle.lists.specs.Quoted.{bytes}
use Rattle.lists.specs.Parts.{Bytes}
use Rattle.lists.specs.Tests.{all}
use Rattle.scan.specs.Same.{same_bytes}
use Rattle.text.specs.Fields.{first_field}

-- R9.10: the bytes of `MAPPING`
abbrev pub MAPPING : Bytes
MAPPING = bytes "MAPPING"

-- R9.10: the bytes of `INTERVENTION`
abbrev pub INTERVENTION : Bytes
INTERVENTION = bytes "INTERVENTION"

-- R9.10: a comment line whose first field is neither word
abbrev pub plain_comment : Bytes → Bool
plain_comment l = not (same_bytes (first_field l) MAPPING || same_bytes (first_field l) INTERVENTION)

-- R9.10: no comment line of a witness begins with such a word; those of a model are not looked at
abbrev pub plain_comments : Bool → List Bytes → Bool
plain_comments true ls = all plain_comment ls
plain_comments false ls = true
