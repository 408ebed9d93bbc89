use Rattle.std.proofs.Common.{rules, ◌≡◌, inl, refl, sym, ap, subst, ◌∙◌, arith}
use Rattle.std.specs.Prelude.{IfErr}
use Rattle.ap_accept.specs.Accepts.{accepts, code_by, recorded_by, IsCoded, IsParty, IsService}
use Rattle.ap_accept.specs.Clients.{IsKeptOrDropped, floor_for}
use Rattle.ap_accept.specs.StageLaws.{is_coded}
use Rattle.ap_accept.specs.State.{clients_of, cache_of}
use Rattle.ap_accept.specs.declared.state.State.{State}
use Rattle.ap_accept.proofs.Frame.{accepts_keeps, call_keeps, others_alike, others_kept, others_stay}
use Rattle.ap_accept.proofs.Raised.{raised, same_from}
use Rattle.ap_accept.proofs.Ruling.{request_is}
use Rattle.ap_accept.proofs.acceptor.Acceptor.accept.Goals as goal

pub returns-clause-request : goal.returns-clause-request
returns-clause-request c r = request_is c.args.ap_req.now r (λ i. omega (arith, c.type_inv.ap_req i))

pub returns-clause-code : goal.returns-clause-code
returns-clause-code c =
    let state = c.self.inside.state in
    let is : state ≡ c.args.self.now = search rules in
    subst (λ (s : State). IfErr c.accept.result (λ fault. IsCoded fault (code_by s c.args.at.sec c.args.ap_req.now))) is
    (is_coded state c.args.at c.args.confounder.now c.args.ap_req.now c.accept.result c.accept.ensures.answer)

pub returns-clause-services : goal.returns-clause-services
returns-clause-services c service other =
    let state = c.self.inside.state in
    let octets = c.args.ap_req.now in
    let is : state ≡ c.args.self.now = search rules in
    call_keeps (λ s. clients_of s service ≡ clients_of state service) c.accept.result state c.accept.new.state (accepts state c.args.at c.args.confounder.now octets).state c.accept.ensures.state refl
    (others_stay state service c.args.at c.args.confounder.now octets (subst (λ (s : State). IsService service (recorded_by s c.args.at.sec octets) → ⊥) (sym is) other))
    ∙ ap (λ s. clients_of s service) is

pub returns-clause-caches : goal.returns-clause-caches
returns-clause-caches c service client other =
    let state = c.self.inside.state in
    let octets = c.args.ap_req.now in
    let is : state ≡ c.args.self.now = search rules in
    let alike : raised (floor_for c.args.at.sec) (cache_of c.accept.new.state service client) ≡ raised (floor_for c.args.at.sec) (cache_of state service client) =
    call_keeps (λ s. raised (floor_for c.args.at.sec) (cache_of s service client) ≡ raised (floor_for c.args.at.sec) (cache_of state service client))
    c.accept.result state c.accept.new.state (accepts state c.args.at c.args.confounder.now octets).state c.accept.ensures.state refl
    (others_alike state service client c.args.at c.args.confounder.now octets (subst (λ (s : State). IsParty service client (recorded_by s c.args.at.sec octets) → ⊥) (sym is) other)) in
    same_from c.args.at.sec (cache_of c.accept.new.state service client) (cache_of c.args.self.now service client)
    (alike ∙ ap (λ s. raised (floor_for c.args.at.sec) (cache_of s service client)) is)

pub returns-clause-kept : goal.returns-clause-kept
returns-clause-kept c service client other =
    let state = c.self.inside.state in
    let octets = c.args.ap_req.now in
    let is : state ≡ c.args.self.now = search rules in
    let floor = (clients_of state service).floor in
    let old = cache_of state service client in
    subst (λ (s : State). IsKeptOrDropped c.args.at.sec (clients_of s service).floor (cache_of s service client) (cache_of c.accept.new.state service client)) is
    (call_keeps (λ s. IsKeptOrDropped c.args.at.sec floor old (cache_of s service client)) c.accept.result state c.accept.new.state (accepts state c.args.at c.args.confounder.now octets).state c.accept.ensures.state (inl refl)
    (others_kept state service client c.args.at c.args.confounder.now octets (subst (λ (s : State). IsParty service client (recorded_by s c.args.at.sec octets) → ⊥) (sym is) other)))

pub returns-clause-keytab : goal.returns-clause-keytab
returns-clause-keytab c =
    let state = c.self.inside.state in
    let octets = c.args.ap_req.now in
    let is : state ≡ c.args.self.now = search rules in
    call_keeps (λ s. s.keytab ≡ state.keytab) c.accept.result state c.accept.new.state (accepts state c.args.at c.args.confounder.now octets).state c.accept.ensures.state refl
    (accepts_keeps (λ s. s.keytab ≡ state.keytab) state refl c.args.at c.args.confounder.now octets (λ p presents. refl))
    ∙ ap (λ s. s.keytab) is

pub returns-clause-options : goal.returns-clause-options
returns-clause-options c =
    let state = c.self.inside.state in
    let octets = c.args.ap_req.now in
    let is : state ≡ c.args.self.now = search rules in
    call_keeps (λ s. s.options ≡ state.options) c.accept.result state c.accept.new.state (accepts state c.args.at c.args.confounder.now octets).state c.accept.ensures.state refl
    (accepts_keeps (λ s. s.options ≡ state.options) state refl c.args.at c.args.confounder.now octets (λ p presents. refl))
    ∙ ap (λ s. s.options) is
