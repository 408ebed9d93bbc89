-- What is appended for an authenticator, and what a journal begins with.
use Rattle.std.specs.Prelude.{◌≡◌, ℕ, ℤ, List}
use Rattle.krb_elements.specs.Codec.{written}
use Rattle.krb_fields.specs.declared.moment.Moment.{Moment}
use Rattle.replay.specs.declared.seen.Seen.{Seen}
use Rattle.journal.specs.Decision.{Place, came, seen_of}
use Rattle.journal.specs.Forms.{Entry, Header, entry, header}
use Rattle.journal.specs.Texts.{HasElement, HasHeader, check_of, checked, header_check}

-- an entry of this authenticator and of no other, whose request came in the second of this moment
pub record KeepsEntry (before : List ℕ) (at : Moment) (seen : Seen) (text check : List ℕ) : Type 0 where
  pub entry_kept : Entry
  pub is : seen_of entry_kept ≡ seen
  pub came_at : came entry_kept ≡ at.sec
  pub text_is : text ≡ checked before (written entry entry_kept)
  pub check_is : check ≡ check_of before (written entry entry_kept)
  -- and it is read again
  pub has : HasElement entry_kept

abbrev pub begun : Place → ℤ → List ℕ → Header
begun place floor link = record {
  realm = place.realm.now;
  boot = place.boot.now;
  at = place.at.sec;
  floor = floor;
  link = link;
}

pub record BeginsJournal (h : Header) (text check : List ℕ) : Type 0 where
  pub text_is : text ≡ checked h.link (written header h)
  pub check_is : check ≡ header_check h
  pub has : HasHeader h
