mod KeytabFaults
mod KeytabVersions
