-- If the line that a text spells cannot run, no line that it spells can.
use Rattle.std.proofs.Common.{◌≡◌, ◌==◌, ℕ, List, [], ◌∷◌, None, Some, refl, sym, ◌∙◌, codes}
use Rattle.std.specs.Prelude.{Option}
use Rattle.std.specs.List.{slice_split}
use Rattle.krb_fields.specs.NameLimits.{IsComponent}
use Rattle.enctypes.specs.declared.key.Key.{Key}
use Rattle.principal_rows.specs.declared.limits.Limits.{Limits}
use Rattle.kdc_state.specs.declared.state.State.{State}
use Rattle.kdcd.specs.declared.line.Line.{Line}
use Rattle.kdcd.specs.declared.line.Line.TheVariants.{Open, Change, Request, Restart}
use Rattle.kdcd.specs.Line.{word_of, AreFields, AreLineFields, AreOpenFields, IsLineText}
use Rattle.kdcd.specs.Run.{CannotRun}
use Rattle.kdcd.proofs.LineTexts.{apart, no_change}

-- the realm of an `open` line is the text of a component
realm_of_open : (realm : List ℕ) (limits : Limits) (keys : List Key) (texts : List (List ℕ)) → AreOpenFields realm limits keys texts → IsComponent realm
realm_of_open realm limits keys (a ∷ b ∷ c ∷ d ∷ e ∷ f ∷ g ∷ []) is = is.0.0
realm_of_open realm limits keys [] is = absurd is
realm_of_open realm limits keys (a ∷ []) is = absurd is
realm_of_open realm limits keys (a ∷ b ∷ []) is = absurd is
realm_of_open realm limits keys (a ∷ b ∷ c ∷ []) is = absurd is
realm_of_open realm limits keys (a ∷ b ∷ c ∷ d ∷ []) is = absurd is
realm_of_open realm limits keys (a ∷ b ∷ c ∷ d ∷ e ∷ []) is = absurd is
realm_of_open realm limits keys (a ∷ b ∷ c ∷ d ∷ e ∷ f ∷ []) is = absurd is
realm_of_open realm limits keys (a ∷ b ∷ c ∷ d ∷ e ∷ f ∷ g ∷ h ∷ rest) is = absurd is

-- if a KDC is open, each line with fields can run
runs_when_open : (kdc : State) (line : Line) (texts : List (List ℕ)) → AreFields line texts → ¬ CannotRun (Some kdc) line
runs_when_open kdc (Open realm limits keys) texts are cannot = cannot (realm_of_open realm limits keys texts are)
runs_when_open kdc (Change name what) texts are cannot = cannot
runs_when_open kdc (Request request) texts are cannot = cannot
runs_when_open kdc (Restart at) texts are cannot = cannot

-- otherwise `open` can
opens : (line : Line) (texts : List (List ℕ)) → AreFields line texts → CannotRun None line → ¬ (word_of line ≡ codes "open")
opens (Open realm limits keys) texts are cannot is = cannot (realm_of_open realm limits keys texts are)
opens (Change name what) texts are cannot is = no_change _ refl what (sym is)
opens (Request request) texts are cannot is = apart _ _ refl is
opens (Restart at) texts are cannot is = apart _ _ refl is

-- and no other line
only_opens : (line : Line) → ¬ (word_of line ≡ codes "open") → CannotRun None line
only_opens (Open realm limits keys) other = absurd (other refl)
only_opens (Change name what) other = tt
only_opens (Request request) other = tt
only_opens (Restart at) other = tt

of_fields : (kdc : Option State) (line other : Line) (fields : List (List ℕ)) → AreLineFields line fields → CannotRun kdc line → AreLineFields other fields → CannotRun kdc other
of_fields kdc line other [] are cannot also = absurd are
of_fields (Some kdc) line other (word ∷ texts) are cannot also = absurd (runs_when_open kdc line texts are.1 cannot)
of_fields None line other (word ∷ texts) are cannot also = only_opens other (λ is. opens line texts are.1 cannot (sym are.0 ∙ also.0 ∙ is))

pub none_can_run : (kdc : Option State) (text : List ℕ) (line : Line) → IsLineText line text → CannotRun kdc line → (other : Line) → IsLineText other text → CannotRun kdc other
none_can_run kdc text line is cannot other also = of_fields kdc line other (slice_split (λ o. o == 0x20) text) is.fields cannot also.fields
