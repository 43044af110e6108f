-- What the words of a line are (docs/service.md, "Scripts").
use Rattle.std.specs.Prelude.{◌≡◌, ◌≢◌, ℕ, ◌<◌, List, [], ◌∷◌, ◌++◌, length, codes}
use Rattle.std.specs.Prelude.{Option, Some, None}
use Rattle.std.specs.List.{AllByRecursion}

-- none of the bytes is this one
abbrev pub HasNo : (byte : ℕ) → (bytes : List ℕ) → Type 0
HasNo byte bytes = AllByRecursion (λ b. b ≢ byte) bytes

-- one byte at least, and no blank
pub record IsPhraseWord (word : List ℕ) : Type 0 where
  pub some : 0 < length word
  pub no_blank : HasNo 32 word

-- `protocol NAME`
pub record IsProtocolLine (line name : List ℕ) : Type 0 where
  pub is : line ≡ codes "protocol " ++ name
  pub word : IsPhraseWord name

-- what stands behind the method: nothing, or a blank and a text
abbrev pub behind_method : (text : Option (List ℕ)) → List ℕ
behind_method None = []
behind_method (Some text) = 32 ∷ text

-- `reply METHOD`, or `reply METHOD TEXT`; the text may be empty and may begin with blanks
pub record IsReplyLine (line method : List ℕ) (text : Option (List ℕ)) : Type 0 where
  pub is : line ≡ codes "reply " ++ (method ++ behind_method text)
  pub word : IsPhraseWord method
