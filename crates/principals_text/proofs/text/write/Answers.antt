use Rattle.std.proofs.Common.{◌≡◌, ◌++◌, IsUtf8, sym, ap, subst, ◌∙◌}
use Rattle.json.specs.Lex.{tokens}
use Rattle.json.specs.Print.{print}
use Rattle.serde_json.proofs.Texts.{print-outline}
use Rattle.principals_text.specs.Tokens.{data_tokens}
use Rattle.principals_text.specs.Value.{database_or}
use Rattle.principals_text.specs.Written.{database_value}
use Rattle.principals_text.proofs.KeptRows.{kept_text}
use Rattle.principals_text.proofs.RowTokens.{from_nothing}
use Rattle.principals_text.proofs.Shapes.{nests}
use Rattle.principals_text.proofs.text.write.Goals as goal

pub utf8_text-requires : goal.utf8_text-requires
utf8_text-requires c =
    let d = database_value c.args.database.now in
    let held = from_nothing _ _ (data_tokens d) (c.new-out.ensures.before ∙ c.new.ensures.items) c.new-out.ensures.tokens c.in_ok-write_tokens.ensures.tokens in
    let items = c.into_inner.ensures.items ∙ (λ i. held.1 i ++ print (held.0 i)) in
    subst IsUtf8 (sym items) (subst (λ ts. IsUtf8 (print ts)) held.0 c.into_inner.ensures.utf8)

pub returns-clause-text : goal.returns-clause-text
returns-clause-text c =
    let d = database_value c.args.database.now in
    let held = from_nothing _ _ (data_tokens d) (c.new-out.ensures.before ∙ c.new.ensures.items) c.new-out.ensures.tokens c.in_ok-write_tokens.ensures.tokens in
    let items = c.into_inner.ensures.items ∙ (λ i. held.1 i ++ print (held.0 i)) in
    c.utf8_text.ensures ∙ items ∙ print-outline d

pub returns-clause-value : goal.returns-clause-value
returns-clause-value c =
    let d = database_value c.args.database.now in
    let held = from_nothing _ _ (data_tokens d) (c.new-out.ensures.before ∙ c.new.ensures.items) c.new-out.ensures.tokens c.in_ok-write_tokens.ensures.tokens in
    let items = c.into_inner.ensures.items ∙ (λ i. held.1 i ++ print (held.0 i)) in
    let back = subst (λ ts. tokens (print ts) ≡ ts) held.0 c.into_inner.ensures.reads_back in
    kept_text d _ c.in_ok-write_tokens.ensures.kept (nests c.args.database.now) (ap tokens (c.utf8_text.ensures ∙ items) ∙ back)

pub returns-clause-reads_back : goal.returns-clause-reads_back
returns-clause-reads_back c =
    let d = database_value c.args.database.now in
    let held = from_nothing _ _ (data_tokens d) (c.new-out.ensures.before ∙ c.new.ensures.items) c.new-out.ensures.tokens c.in_ok-write_tokens.ensures.tokens in
    let items = c.into_inner.ensures.items ∙ (λ i. held.1 i ++ print (held.0 i)) in
    let back = subst (λ ts. tokens (print ts) ≡ ts) held.0 c.into_inner.ensures.reads_back in
    ap database_or (kept_text d _ c.in_ok-write_tokens.ensures.kept (nests c.args.database.now) (ap tokens (c.utf8_text.ensures ∙ items) ∙ back)) ∙ c.in_ok-write_tokens.ensures.reads
