-- The fields of a line, one by one.
use Rattle.std.proofs.Common.{◌≡◌, ℕ, Bool, true, false, ◌||◌, List, [], ◌∷◌, get_or, map, codes, refl, ap, sym, subst, ◌∙◌}
use Rattle.std.proofs.Common.{Bor, bytes_eq, true≢false}
use Rattle.std.proofs.lemmas.Slice.Eq.{bytes_eq-Decides}
use Rattle.enctypes.specs.declared.key.Key.{Key}
use Rattle.principal_rows.specs.declared.limits.Limits.{Limits}
use Rattle.krb_fields.specs.NameText.{IsComponentText}
use Rattle.kdcd.specs.declared.line.Line.{Line}
use Rattle.kdcd.specs.declared.line.Line.TheVariants.{Open, Change, Request, Restart}
use Rattle.kdcd.specs.declared.line.LineChange.{LineChange}
use Rattle.kdcd.specs.declared.line.LineChange.TheVariants.{Add, NewKeys, DropKeys, Remove, Set}
use Rattle.kdcd.specs.declared.line.LineRequest.{LineRequest}
use Rattle.kdcd.specs.Field.{AreLimitsTexts, IsOctetsText, IsKeysText}
use Rattle.kdcd.specs.Line.{change_word, word_of, AreOpenFields, AreRequestFields, AreLineFields}

-- the texts of the fields
abbrev pub texts_of : List (Bor (List ℕ)) → List (List ℕ)
texts_of fields = map (λ field. field.now) fields

-- two words that compare as different
pub apart : (v w : List ℕ) → bytes_eq v w ≡ false → v ≡ w → ⊥
apart v w other same = true≢false (sym ((bytes_eq-Decides v w).1 same) ∙ other)

-- ---- the line that starts with a word

abbrev is_change_word : List ℕ → Bool
is_change_word word =
    bytes_eq word (codes "add") || bytes_eq word (codes "keys") || bytes_eq word (codes "drop")
    || bytes_eq word (codes "remove") || bytes_eq word (codes "policy")

each_change : (what : LineChange) → is_change_word (change_word what) ≡ true
each_change (Add keys) = refl
each_change (NewKeys keys) = refl
each_change (DropKeys version) = refl
each_change Remove = refl
each_change (Set setting) = refl

-- any other word starts no change
pub no_change : (word : List ℕ) → is_change_word word ≡ false → (what : LineChange) → word ≡ change_word what → ⊥
no_change word other what is = true≢false (sym (each_change what) ∙ ap is_change_word (sym is) ∙ other)

open_line : (line : Line) (texts : List (List ℕ)) → AreLineFields line (codes "open" ∷ texts) → (realm : List ℕ) × (limits : Limits) × (keys : List Key) × AreOpenFields realm limits keys texts
open_line (Open realm limits keys) texts is = (realm, limits, keys, is.1)
open_line (Change name what) texts is = absurd (no_change _ refl what is.0)
open_line (Request request) texts is = absurd (apart _ _ refl is.0)
open_line (Restart at) texts is = absurd (apart _ _ refl is.0)

request_line : (line : Line) (texts : List (List ℕ)) → AreLineFields line (codes "request" ∷ texts) → (request : LineRequest) × AreRequestFields request texts
request_line (Request request) texts is = (request, is.1)
request_line (Open realm limits keys) texts is = absurd (apart _ _ refl is.0)
request_line (Change name what) texts is = absurd (no_change _ refl what is.0)
request_line (Restart at) texts is = absurd (apart _ _ refl is.0)

-- ---- the fields after the word

-- those of `open` spell its realm, limits and keys
pub open_texts : (fields : List (Bor (List ℕ))) (d : Bor (List ℕ)) (line : Line) → AreLineFields line (codes "open" ∷ texts_of fields)
    → ((realm : List ℕ) × IsComponentText realm (get_or fields 0 d).now)
    × ((limits : Limits) × AreLimitsTexts limits ((get_or fields 1 d).now ∷ (get_or fields 2 d).now ∷ (get_or fields 3 d).now ∷ (get_or fields 4 d).now ∷ (get_or fields 5 d).now ∷ []))
    × ((keys : List Key) × IsKeysText keys (get_or fields 6 d).now)
open_texts fields d line is = let o = open_line line (texts_of fields) is in at fields o.0 o.1 o.2 o.3
  where
    at : (fields : List (Bor (List ℕ))) (realm : List ℕ) (limits : Limits) (keys : List Key) → AreOpenFields realm limits keys (texts_of fields)
        → ((realm : List ℕ) × IsComponentText realm (get_or fields 0 d).now)
        × ((limits : Limits) × AreLimitsTexts limits ((get_or fields 1 d).now ∷ (get_or fields 2 d).now ∷ (get_or fields 3 d).now ∷ (get_or fields 4 d).now ∷ (get_or fields 5 d).now ∷ []))
        × ((keys : List Key) × IsKeysText keys (get_or fields 6 d).now)
    at (a ∷ b ∷ c ∷ e ∷ f ∷ g ∷ h ∷ []) realm limits keys is = ((realm, is.0), (limits, is.1), (keys, is.2))
    at [] realm limits keys is = absurd is
    at (a ∷ []) realm limits keys is = absurd is
    at (a ∷ b ∷ []) realm limits keys is = absurd is
    at (a ∷ b ∷ c ∷ []) realm limits keys is = absurd is
    at (a ∷ b ∷ c ∷ e ∷ []) realm limits keys is = absurd is
    at (a ∷ b ∷ c ∷ e ∷ f ∷ []) realm limits keys is = absurd is
    at (a ∷ b ∷ c ∷ e ∷ f ∷ g ∷ []) realm limits keys is = absurd is
    at (a ∷ b ∷ c ∷ e ∷ f ∷ g ∷ h ∷ i ∷ rest) realm limits keys is = absurd is

-- the last field of a request spells its bytes
pub request_octets : (fields : List (Bor (List ℕ))) (d : Bor (List ℕ)) (line : Line) → AreLineFields line (codes "request" ∷ texts_of fields)
    → (octets : List ℕ) × IsOctetsText octets (get_or fields 4 d).now
request_octets fields d line is = let o = request_line line (texts_of fields) is in at fields o.0 o.1
  where
    at : (fields : List (Bor (List ℕ))) (request : LineRequest) → AreRequestFields request (texts_of fields) → (octets : List ℕ) × IsOctetsText octets (get_or fields 4 d).now
    at (sec ∷ usec ∷ random ∷ room ∷ octets ∷ []) request is = (request.octets.items, is.3)
    at [] request is = absurd is
    at (a ∷ []) request is = absurd is
    at (a ∷ b ∷ []) request is = absurd is
    at (a ∷ b ∷ c ∷ []) request is = absurd is
    at (a ∷ b ∷ c ∷ e ∷ []) request is = absurd is
    at (a ∷ b ∷ c ∷ e ∷ f ∷ g ∷ rest) request is = absurd is

-- if the first field is another word, the fields are not those of a line
pub other_word : (fields rest : List (Bor (List ℕ))) (word : Bor (List ℕ)) → fields ≡ word ∷ rest
    → (word.now ≡ codes "open" → ⊥) → (word.now ≡ codes "add" → ⊥) → (word.now ≡ codes "keys" → ⊥) → (word.now ≡ codes "drop" → ⊥) → (word.now ≡ codes "remove" → ⊥) → (word.now ≡ codes "policy" → ⊥) → (word.now ≡ codes "request" → ⊥) → (word.now ≡ codes "restart" → ⊥)
    → (line : Line) → ¬ AreLineFields line (texts_of fields)
other_word fields rest word e not_open not_add not_keys not_drop not_remove not_policy not_request not_restart line are =
    at line (subst (λ (fs : List (Bor (List ℕ))). AreLineFields line (texts_of fs)) e are).0
  where
    at_change : (what : LineChange) → word.now ≡ change_word what → ⊥
    at_change (Add keys) is = not_add is
    at_change (NewKeys keys) is = not_keys is
    at_change (DropKeys version) is = not_drop is
    at_change Remove is = not_remove is
    at_change (Set setting) is = not_policy is

    at : (line : Line) → word.now ≡ word_of line → ⊥
    at (Open realm limits keys) is = not_open is
    at (Change name what) is = at_change what is
    at (Request request) is = not_request is
    at (Restart moment) is = not_restart is
