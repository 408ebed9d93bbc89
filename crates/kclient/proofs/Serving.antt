-- The tickets for services in a cache: those that came, and those that can still be used.
use Rattle.std.proofs.Common.{◌≡◌, ◌∙◌, ◌+◌, ◌<◌, ℕ, ℤ, List, [], ◌∷◌, ◌++◌, Option, Some, None, Result, Ok, Err, OnOk, option_map}
use Rattle.std.proofs.Common.{Bool, true, false, ap, drop, get_or, length, refl, subst, sym, take, inl, inr}
use Rattle.std.specs.Prelude.{◌⊎◌, ◌&&◌, All, IfOk, find, if◌then◌else◌, is_some, map, pos}
use Rattle.std.specs.String.{string_bytes}
use Rattle.std.specs.declared.net.socket_addr.SocketAddr.{SocketAddr}
use Rattle.std.specs.Borrow.{Bor}
use Rattle.std.proofs.lemmas.List.{map-append, take_more}
use Rattle.std.proofs.lemmas.List.Elements.{All-append, All-cons, All-head, All-nil, All-tail}
use Rattle.client_core.specs.declared.asked.Asked.{Asked}
use Rattle.client_files.specs.Caches.{HasCache}
use Rattle.client_files.specs.Holding.{good_credential, if_good, is_good}
use Rattle.client_login.specs.Asking.{further_asked}
use Rattle.client_login.specs.Logins.{IsFurther}
use Rattle.client_login.specs.declared.faults.TicketError.{TicketError}
use Rattle.cred_files.specs.Cache.{CacheContents, cache_text, full_name, is_for, is_usable, put_first}
use Rattle.cred_files.specs.declared.credential.Credential.{Credential}
use Rattle.enctypes.specs.Numbered.{type_numbered}
use Rattle.file_store.specs.World.{World, with_file}
use Rattle.krb_fields.specs.Name.{Components, same_name}
use Rattle.krb_fields.specs.PrincipalName.{Name}
use Rattle.kclient.specs.CacheSessions.{Answered, Collected, IsGoodIn, IsHeld, IsSpelled, IsWritten}
use Rattle.kclient.specs.Principals.{HasTicket, IsServed}
use Rattle.command_line.specs.Values.{Text, texts}
use Rattle.kclient.specs.Worlds.{IsLeft, Served, with_tickets}
use Rattle.kclient.specs.declared.kvno.CacheSession.{CacheSession}
use Rattle.kclient.specs.declared.kvno.Service.{Service}

-- ---- the services that words name

pub words_more : (services new : List Service) (service : Service) (names : List (Bor Text)) (i : ℕ) (other : Bor Text)
    → i < length names → map (λ service. string_bytes service.word) services ≡ texts (take i names)
    → new ≡ services ++ service ∷ [] → string_bytes service.word ≡ (get_or names i other).now
    → map (λ service. string_bytes service.word) new ≡ texts (take (i + 1) names)
words_more services new service names i other lt so_far pushed is =
    ap (map (λ service. string_bytes service.word)) pushed
    ∙ map-append (λ (service : Service). string_bytes service.word) services (service ∷ [])
    ∙ ap (λ (all : List Text). all ++ string_bytes service.word ∷ []) so_far
    ∙ ap (λ (text : Text). texts (take i names) ++ text ∷ []) is
    ∙ sym (map-append (λ (text : Bor Text). text.now) (take i names) (get_or names i other ∷ []))
    ∙ ap texts (sym (take_more names i other lt))

pub spelled_more : (services new : List Service) (service : Service) → All IsSpelled services
    → new ≡ services ++ service ∷ [] → IsSpelled service → All IsSpelled new
spelled_more services new service so_far pushed is =
    subst (λ all. All IsSpelled all) (sym pushed)
    (All-append IsSpelled services (service ∷ []) so_far (All-cons IsSpelled service [] is (All-nil IsSpelled)))

-- ---- a ticket that came is for the service that was asked for

pub came_for : (answers : SocketAddr → List ℕ → List ℕ → Type 0) (granting : Credential) (service : Name) (nonce : ℕ)
    (now : ℤ) (result : Result Credential TicketError)
    → IfOk result (λ ticket. IsFurther answers granting (further_asked 0 granting.client service nonce) now ticket)
    → IfOk result (λ ticket. ticket.server.name.components ≡ service.components)
came_for answers granting service nonce now (Ok ticket) is =
    let taken = is.replied.says.taken in
    ap (λ (c : Credential). c.server.name.components) taken.is ∙ taken.service.names
came_for answers granting service nonce now (Err fault) is = tt

-- ---- a ticket that can still be used

both : (a b : Bool) → (a && b) ≡ true → (a ≡ true) × (b ≡ true)
both true b is = (refl, is)
both false b is = absurd cc

for_service : (realm : List ℕ) (service : Components) (c : Credential) → is_usable (realm ∷ service) c ≡ true
    → c.server.name.components ≡ service
for_service realm service c is =
    ap (drop 1) (same_name (full_name c.server) (realm ∷ service)
    (both (is_for (realm ∷ service) c) (is_some (type_numbered (pos c.key.key_type))) is).0)

good_one : (now : ℤ) (service : Components) (c : Credential) (cs : List Credential) (credential : Credential) (s : Bool)
    → is_good now c ≡ s → c.server.name.components ≡ service
    → Some credential ≡ (if s then Some c else None) → IsGoodIn now (c ∷ cs) service
good_one now service c cs credential true good for is = inl (for, inr good)
good_one now service c cs credential false good for is = absurd cc

good_in : (now : ℤ) (realm : List ℕ) (service : Components) (cs : List Credential) (credential : Credential)
    → Some credential ≡ if_good now (find (is_usable (realm ∷ service)) cs) → IsGoodIn now cs service
good_in now realm service [] credential is = absurd cc
good_in now realm service (c ∷ cs) credential is =
    by_cases (is_usable (realm ∷ service) c) refl is (good_in now realm service cs credential) where
      by_cases : (s : Bool) → is_usable (realm ∷ service) c ≡ s
          → Some credential ≡ if_good now (if s then Some c else find (is_usable (realm ∷ service)) cs)
          → (Some credential ≡ if_good now (find (is_usable (realm ∷ service)) cs) → IsGoodIn now cs service)
          → IsGoodIn now (c ∷ cs) service
      by_cases true usable is later =
          good_one now service c cs credential (is_good now c) refl (for_service realm service c usable) is
      by_cases false usable is later = inr (later is)

pub good_there : (now : ℤ) (cache : CacheContents) (service : Components) (credential : Credential)
    → Some credential ≡ good_credential now cache service → IsGoodIn now cache.credentials service
good_there now cache service credential is = good_in now cache.principal.realm service cache.credentials credential is

module _ (IsReceived : Credential → Type 0) (now : ℤ) where
  pub held_there : (service : Components) (tickets : List Credential) → IsGoodIn now tickets service
      → HasTicket IsReceived now service tickets
  held_there service [] has = absurd has
  held_there service (ticket ∷ tickets) (inl (for, inl none)) = absurd none
  held_there service (ticket ∷ tickets) (inl (for, inr good)) = inl (for, inr good)
  held_there service (ticket ∷ tickets) (inr has) = inr (held_there service tickets has)

  -- ---- putting a ticket

  put_one : (service : Components) (new c : Credential) (cs rest : List Credential) (s : Bool)
      → is_for (full_name new.server) c ≡ s → IsReceived new → HasTicket IsReceived now service (c ∷ cs)
      → (HasTicket IsReceived now service cs → HasTicket IsReceived now service rest)
      → HasTicket IsReceived now service (if s then new ∷ cs else c ∷ rest)
  put_one service new c cs rest true here came (inl is) later =
      inl (sym (ap (drop 1) (same_name (full_name c.server) (full_name new.server) here)) ∙ is.0, inl came)
  put_one service new c cs rest true here came (inr has) later = inr has
  put_one service new c cs rest false here came (inl is) later = inl is
  put_one service new c cs rest false here came (inr has) later = inr (later has)

  put_kept : (service : Components) (new : Credential) (cs : List Credential) → IsReceived new
      → HasTicket IsReceived now service cs → HasTicket IsReceived now service (put_first new cs)
  unfolding put_first
  put_kept service new [] came has = absurd has
  put_kept service new (c ∷ cs) came has =
      put_one service new c cs (put_first new cs) (is_for (full_name new.server) c) refl came has (put_kept service new cs came)

  one_put : (service : Components) (new c : Credential) (cs rest : List Credential) (s : Bool) → IsReceived new
      → new.server.name.components ≡ service → HasTicket IsReceived now service rest
      → HasTicket IsReceived now service (if s then new ∷ cs else c ∷ rest)
  one_put service new c cs rest true came for later = inl (for, inl came)
  one_put service new c cs rest false came for later = inr later

  put_in : (service : Components) (new : Credential) (cs : List Credential) → IsReceived new
      → new.server.name.components ≡ service → HasTicket IsReceived now service (put_first new cs)
  unfolding put_first
  put_in service new [] came for = inl (for, inl came)
  put_in service new (c ∷ cs) came for =
      one_put service new c cs (put_first new cs) (is_for (full_name new.server) c) came for (put_in service new cs came for)

  pub put_there : {A E : Type 0} (result : Result A E) (service : Components) (asked last : CacheSession)
      (ticket : Credential)
      → OnOk result (last.cache ≡ record asked.cache { credentials = put_first ticket asked.cache.credentials })
      → IsReceived ticket → ticket.server.name.components ≡ service
      → OnOk result (HasTicket IsReceived now service last.cache.credentials)
  put_there (Ok x) service asked last ticket put came for =
      subst (λ (cache : CacheContents). HasTicket IsReceived now service cache.credentials) (sym put)
      (put_in service ticket asked.cache.credentials came for)
  put_there (Err fault) service asked last ticket put came for = tt

  -- ---- a session

  kept_by : (service : Components) (tickets : List Credential) (cache : CacheContents) → All IsReceived tickets
      → HasTicket IsReceived now service cache.credentials
      → HasTicket IsReceived now service (with_tickets tickets cache).credentials
  kept_by service [] cache came has = has
  kept_by service (ticket ∷ tickets) cache came has =
      kept_by service tickets (record cache { credentials = put_first ticket cache.credentials })
      (All-tail IsReceived ticket tickets came)
      (put_kept service ticket cache.credentials (All-head IsReceived ticket tickets came) has)

  kept_in : (service : Components) (first last : CacheSession) → Collected IsReceived first last
      → HasTicket IsReceived now service first.cache.credentials
      → HasTicket IsReceived now service last.cache.credentials
  kept_in service first last is has =
      subst (λ (cache : CacheContents). HasTicket IsReceived now service cache.credentials) (sym is.cache)
      (kept_by service is.tickets first.cache is.came has)

  all_kept : (services : List Service) (first last : CacheSession) → Collected IsReceived first last
      → All (IsHeld IsReceived now first.cache.credentials) services
      → All (IsHeld IsReceived now last.cache.credentials) services
  all_kept [] first last is held = All-nil (IsHeld IsReceived now last.cache.credentials)
  all_kept (service ∷ services) first last is held =
      All-cons (IsHeld IsReceived now last.cache.credentials) service services
      (kept_in service.name.components first last is (All-head (IsHeld IsReceived now first.cache.credentials) service services held))
      (all_kept services first last is (All-tail (IsHeld IsReceived now first.cache.credentials) service services held))

  pub held_more : (services : List Service) (i : ℕ) (other : Service) (between last : CacheSession) → i < length services
      → All (IsHeld IsReceived now between.cache.credentials) (take i services) → Collected IsReceived between last
      → HasTicket IsReceived now (get_or services i other).name.components last.cache.credentials
      → All (IsHeld IsReceived now last.cache.credentials) (take (i + 1) services)
  held_more services i other between last lt held is has =
      let service = get_or services i other in
      let IsNow = IsHeld IsReceived now last.cache.credentials in
      subst (λ some. All IsNow some) (sym (take_more services i other lt))
      (All-append IsNow (take i services) (service ∷ []) (all_kept (take i services) between last is held)
      (All-cons IsNow service [] has (All-nil IsNow)))

  -- ---- the cache that is left

  pub answered : (services : List Service) (first last : CacheSession) (before asked after : Option World)
      → Collected IsReceived first last → All (IsHeld IsReceived now last.cache.credentials) services
      → IsWritten last asked after → asked ≡ before
      → Answered IsReceived now services (string_bytes first.path) first.cache before after
  answered services first last before asked after is held left kept = record {
    tickets = is.tickets;
    came = is.came;
    left = by_cases left;
    held = subst (λ (cache : CacheContents). All (IsHeld IsReceived now cache.credentials) services) is.cache held;
  } where
    by_cases : IsWritten last asked after
        → IsLeft (string_bytes first.path) first.cache (with_tickets is.tickets first.cache) before after
    by_cases (inl (same, stays)) = inl (sym is.cache ∙ (is.kept same).1, stays ∙ kept)
    by_cases (inr written) = inr (written
        ∙ ap (λ world. option_map (with_file (string_bytes last.path) (cache_text last.cache)) world) kept
        ∙ ap (λ path. option_map (with_file (string_bytes path) (cache_text last.cache)) before) is.path
        ∙ ap (λ cache. option_map (with_file (string_bytes first.path) (cache_text cache)) before) is.cache)

  all_served : (services : List Service) (tickets : List Credential) → All IsSpelled services
      → All (IsHeld IsReceived now tickets) services
      → All (IsServed IsReceived now tickets) (map (λ service. string_bytes service.word) services)
  all_served [] tickets spelled held = All-nil (IsServed IsReceived now tickets)
  all_served (service ∷ services) tickets spelled held =
      All-cons (IsServed IsReceived now tickets) (string_bytes service.word)
      (map (λ service. string_bytes service.word) services)
      (record {
        service = service.name.components;
        spelled = All-head IsSpelled service services spelled;
        has = All-head (IsHeld IsReceived now tickets) service services held;
      })
      (all_served services tickets (All-tail IsSpelled service services spelled)
      (All-tail (IsHeld IsReceived now tickets) service services held))

  pub served : {A E : Type 0} (result : Result A E) (IsPath : List ℕ → Type 0) (names : List Text)
      (services : List Service) (before read after : Option World) (path : List ℕ) (cache : CacheContents)
      → OnOk result (Answered IsReceived now services path cache read after)
      → map (λ service. string_bytes service.word) services ≡ names → All IsSpelled services → IsPath path
      → HasCache before path cache → read ≡ before → OnOk result (Served IsReceived now names IsPath before after)
  served (Ok x) IsPath names services before read after path cache is words spelled named holds kept = record {
    path = path;
    named = named;
    cache = cache;
    held = holds;
    tickets = is.tickets;
    came = is.came;
    left = subst (λ world. IsLeft path cache (with_tickets is.tickets cache) world after) kept is.left;
    served = subst (λ all. All (IsServed IsReceived now (with_tickets is.tickets cache).credentials) all) words
        (all_served services (with_tickets is.tickets cache).credentials spelled is.held);
  }
  served (Err fault) IsPath names services before read after path cache is words spelled named holds kept = tt

pub not_written : (session : CacheSession) (before after : Option World) → session.is_changed ≡ false → after ≡ before
    → IsWritten session before after
not_written session before after same stays = inl (same, stays)

pub written : {A E : Type 0} (result : Result A E) (session : CacheSession) (before after : Option World)
    → OnOk result (after ≡ option_map (with_file (string_bytes session.path) (cache_text session.cache)) before)
    → OnOk result (IsWritten session before after)
written (Ok x) session before after is = inr is
written (Err fault) session before after is = tt
