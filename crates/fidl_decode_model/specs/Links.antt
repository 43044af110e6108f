-- What the links of a message are seen as.
use Rattle.std.specs.Prelude.{ℕ, List}
use Rattle.fidl_links.specs.Links.{Written}

-- for each eight bytes of a message where the object of the marker or envelope there begins, for
-- each four the record of the handle there, counted from 1; the second half of an envelope has the
-- first record of its member; 0 is no link
pub record Linked : Type 0 where
  pub objects : List ℕ
  pub records : List ℕ

-- the links that are written in a message
abbrev pub noted : Written → Linked
noted w = record { objects = w.objects; records = w.records }
