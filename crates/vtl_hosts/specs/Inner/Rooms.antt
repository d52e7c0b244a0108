-- Room for what the threads of all hosts have.
use Rattle.std.specs.Prelude.{◌≡◌, ◌≤◌, [], length, vec_capacity}
use Rattle.vtl_base.specs.declared.limits.TheConstants.{NEXUSES}
use Rattle.vtl_hosts.specs.declared.ends.Rooms.{Rooms}

-- there are rings for each host, and room for what its thread has (own)
pub record AreRooms {S : Type 0} (rooms : Rooms S) : Type 0 where
  pub rings : length rooms.rings.items ≡ NEXUSES
  pub hosts : (rooms.hosts.items ≡ []) × (NEXUSES ≤ vec_capacity rooms.hosts)
  pub requests : (rooms.requests.items ≡ []) × (NEXUSES ≤ vec_capacity rooms.requests)
  pub answers : (rooms.answers.items ≡ []) × (NEXUSES ≤ vec_capacity rooms.answers)
