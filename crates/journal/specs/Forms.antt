-- The header and the entries of a journal, in DER.
use Rattle.std.proofs.Common.{ℕ, List, refl}
use Rattle.krb_elements.specs.Codec.{Codec, Record, field, end, sequence, octets, time, microseconds, int32}
use Rattle.krb_fields.specs.PrincipalName.{Name, name}
use Rattle.journal.specs.declared.entry.Entry as entries
use Rattle.journal.specs.declared.header.Header as headers

abbrev pub Header : Type 0
Header = headers.Header (List ℕ)

abbrev pub Entry : Type 0
Entry = entries.Entry Name

-- generic in what differs between the owned and the borrowed forms
unfoldable pub header_form : {S : Type 0} → Codec S → Record (headers.Header S)
header_form s = record {
  fields =
      field 0 (λ x. x.realm) s
      (field 1 (λ x. x.boot) s
      (field 2 (λ x. x.at) time
      (field 3 (λ x. x.floor) time
      (field 4 (λ x. x.link) s
      end))));
  to = λ (realm, (boot, (at, (floor, (link, _))))).
      record { realm = realm; boot = boot; at = at; floor = floor; link = link };
  there = λ v. refl;
  back = λ x. refl;
  rising = refl;
}

abbrev pub header_of : {S : Type 0} → Codec S → Codec (headers.Header S)
header_of s = sequence (header_form s)

abbrev pub header : Codec Header
header = header_of octets

unfoldable pub entry_form : {N : Type 0} → Codec N → Record (entries.Entry N)
entry_form n = record {
  fields =
      field 0 (λ x. x.client) n
      (field 1 (λ x. x.ctime) time
      (field 2 (λ x. x.cusec) microseconds
      (field 3 (λ x. x.age) int32
      end)));
  to = λ (client, (ctime, (cusec, (age, _)))).
      record { client = client; ctime = ctime; cusec = cusec; age = age };
  there = λ v. refl;
  back = λ x. refl;
  rising = refl;
}

abbrev pub entry_of : {N : Type 0} → Codec N → Codec (entries.Entry N)
entry_of n = sequence (entry_form n)

abbrev pub entry : Codec Entry
entry = entry_of name
